-- The statements of `specs/Claim.antt`, proved.
use mathlib.Core.Path.{◌≡◌, refl, sym, ap, ◌∙◌, subst, fun_ext}
use mathlib.Core.Logic.{◌⊎◌, inl, inr}
use mathlib.Core.Bool.{false, ◌&&◌}
use mathlib.Core.List.{List, [], ◌∷◌}
use Prim.Native.Nat.{ℕ, suc, ◌*◌, ◌<◌, ◌≤◌}
use native.Mathlib.Omega.{arith}
use Rattle.base.proofs.Cases.{lt?}
use Rattle.words.specs.Word.{word}
use Rattle.records.specs.Layout.{map_place}
use Rattle.records.specs.Page.{links_at}
use Rattle.maps.specs.Bitmap.{mark, bits_of}
use Rattle.maps.proofs.Words.{word-mark}
use Rattle.model.specs.State.{Page, idle, slab, taken, inside, edge}
use Rattle.model.specs.Ruling.{granted, verdict}
use Rattle.rules.specs.Read.{read_fields}
use Rattle.rules.specs.Bytes.{pages_in, image_of, fields_of, read}
use Rattle.rules.proofs.Rule1.{rule1-says}
use Rattle.rules.proofs.Rule2.{rule2-says}
use Rattle.rules.proofs.Pages.{taken-kind}
use Rattle.drawing.proofs.Laws.{none-broken}
use Rattle.sound_pools.specs.Sound.{Sound}
use Rattle.sound_pools.proofs.Calls.{fits}
use Rattle.free_all_model.specs.Mirror.{Trial, begun, is_first, tried, tentative, tried_from}
use Rattle.free_all_model.proofs.Settled.{TrialOk, begun_ok, keeps_ok}
use Rattle.free_all_model.proofs.Decided.{onward_same, trial_decides}
use Rattle.free_all_bytes.proofs.Claim.{answer-is}
use Rattle.free_all_trial.specs.Mirror.{shown_page, shown_trial, put_mark, tried_on}
use Rattle.free_all_trial.specs.Claim.{Decides}
use Rattle.free_all_trial.proofs.Changed.{page-is, page-none}
use Rattle.free_all_trial.proofs.Put.{Room, put-shown, put_room}

no_bits : 0 ≡ bits_of (λ i. false) 64
unfolding bits_of
no_bits = refl

-- ---- the trial begins with what a sound pool shows

module _ (w : ℕ) (s : List ℕ) (S : Sound w s) where
  pub room : Room w s
  room = record { bytes = S.bytes; some = (rule1-says w s (none-broken w s S.sound).0).some }

  -- the map field of a taken run is 0
  no-map : (p : ℕ) → p < pages_in w s → (links_at w s p).kind ≡ 3 → word s (map_place w p) ≡ 0
  no-map p h k =
      let (one, H, peaks) = none-broken w s S.sound in
      unfold fields_of image_of in
      ((rule2-says (fields_of w s) (pages_in w s) H.two).shape.kind3 p h k).no-map

  not-flagged : (p : ℕ) → p < pages_in w s → (x : Page) → shown_page w s p ≡ x → is_first x && mark s (8 * map_place w p) 0 ≡ false
  not-flagged p h idle e = refl
  not-flagged p h (slab c m) e = refl
  not-flagged p h (taken n) e =
      let (three, _) = taken-kind _ _ _ (links_at w s p).kind n (sym (page-is w s p h) ∙ e) in
      word-mark s S.bytes (map_place w p) (omega (arith, room.some)) (λ i. false) (no-map p h three ∙ no_bits) 0 (omega arith)
  not-flagged p h inside e = refl
  not-flagged p h edge e = refl

  begins : shown_trial w s ≡ begun (read w s)
  unfolding shown_trial shown_page begun read read_fields
  begins = λ i. record { page = shown_page w s; flag = fun_ext none i }
    where
      none : (p : ℕ) → is_first (shown_page w s p) && mark s (8 * map_place w p) 0 ≡ false
      none p = go (lt? p (pages_in w s))
        where
          go : (p < pages_in w s) ⊎ (pages_in w s ≤ p) → is_first (shown_page w s p) && mark s (8 * map_place w p) 0 ≡ false
          go (inl h) = not-flagged p h (shown_page w s p) refl
          go (inr h) = rw (page-none w s p h)

  pub begins_ok : TrialOk (shown_page w s)
  unfolding shown_page read read_fields
  begins_ok = begun_ok (read w s) (fits w s S).well

-- ---- a list

pub next_ok : (w : ℕ) (s : List ℕ) → Room w s → TrialOk (shown_page w s) → (off : ℕ) → verdict (tried (shown_trial w s) off) ≡ granted → TrialOk (shown_page w (put_mark false w s off))
unfolding shown_trial
next_ok w s R ok off g =
    subst (λ (t : Trial). TrialOk t.page) (sym (put-shown w s R ok off g)) (keeps_ok (shown_trial w s) ok off)

as_trial : (w : ℕ) (s : List ℕ) → Room w s → TrialOk (shown_page w s) → (k : ℕ) (offs : List ℕ) → tried_on w s k offs ≡ tried_from (shown_trial w s) k offs
unfolding tried_on tried_from
as_trial w s R ok k [] = refl
as_trial w s R ok k (off ∷ offs) =
    onward_same k (tried (shown_trial w s) off) (tried_on w (put_mark false w s off) (suc k) offs) (tried_from (tentative (shown_trial w s) off) (suc k) offs)
    (λ g.
    as_trial w (put_mark false w s off) (put_room w s R ok off) (next_ok w s R ok off g) (suc k) offs
    ∙ ap (λ (t : Trial). tried_from t (suc k) offs) (put-shown w s R ok off g))

pub decides : Decides
decides w s S offs =
    as_trial w s (room w s S) (begins_ok w s S) 0 offs ∙ ap (λ (t : Trial). tried_from t 0 offs) (begins w s S)
    ∙ trial_decides (read w s) (fits w s S).well offs ∙ sym (answer-is w s S offs)
