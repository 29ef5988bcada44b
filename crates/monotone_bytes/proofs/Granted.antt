-- The statements of `specs/Pools.antt`, from those on the model.
use mathlib.Core.Path.{◌≡◌, sym, ◌∙◌, subst}
use Rattle.model.specs.State.{State}
use Rattle.model.specs.Calls.{Alloc, Free, step}
use Rattle.model.specs.Ruling.{granted, verdict}
use Rattle.rules.specs.Bytes.{read}
use Rattle.demands.specs.Calls.{after}
use Rattle.sound_pools.proofs.Calls.{fits, granted-number, number-granted, after-sound, after_read}
use Rattle.free_all_bytes.specs.FreeAll.{free_all_after}
use Rattle.free_all_bytes.proofs.Claim.{claims as free-all-claims}
use Rattle.monotone.proofs.Monotone.{claims as monotone}
use Rattle.monotone_bytes.specs.Pools.{FewerGrantMore, FreeSpoilsNone, FreeAllSpoilsNone, Monotone}

fewer_grant_more : FewerGrantMore
fewer_grant_more w s S v t T size sub n g =
    granted-number w s S (Alloc n)
    (monotone.fewer_grant_more (read w s) (read v t) (fits w s S).well (fits v t T).well ((fits w s S).size ∙ size ∙ sym (fits v t T).size) sub n (number-granted v t T (Alloc n) g))

free_spoils_none : FreeSpoilsNone
free_spoils_none w s S off n g =
    granted-number w (after w s (Free off)) (after-sound w s S (Free off)) (Alloc n)
    (subst (λ (m : State). verdict (step m (Alloc n)).answer ≡ granted) (sym (after_read w s S (Free off)))
    (monotone.free_spoils_none (read w s) (fits w s S).well off n (number-granted w s S (Alloc n) g)))

free_all_spoils_none : FreeAllSpoilsNone
free_all_spoils_none w s S offs n g =
    let left = free-all-claims.on_sound w s S offs in
    granted-number w (free_all_after w s offs) left.sound (Alloc n)
    (subst (λ (m : State). verdict (step m (Alloc n)).answer ≡ granted) (sym left.state)
    (monotone.free_all_spoils_none (read w s) (fits w s S).well offs n (number-granted w s S (Alloc n) g)))

pub claims : Monotone
claims = record { fewer_grant_more = fewer_grant_more; free_spoils_none = free_spoils_none; free_all_spoils_none = free_all_spoils_none }
