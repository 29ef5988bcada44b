-- A host's own table, lent for the call.
use mathlib.Core.Path.{◌≡◌, sym, subst}
use mathlib.Core.List.{List}
use Prim.Native.Nat.{ℕ}
use native.Mathlib.Omega.{arith}
use lib.ListN.{length, take}
use lib.Seq.{take_all}
use Rattle.model.specs.Calls.{Call}
use Rattle.plain.specs.Plain.{plain_of}
use Rattle.plain.specs.Mirror.{served_with}
use Rattle.plain.specs.declared.Extent.{Extent}
use Rattle.plain.specs.declared.Kept.{Kept}
use Rattle.plain.specs.declared.Answer.{Answer}
use Rattle.plain_decide.specs.Calls.{Serves, served_as, Lent}
use Rattle.plain_host.specs.Host.{shown, told, reply_with}
use Rattle.plain_host.specs.declared.Host.{Host}
use Rattle.plain_host.specs.declared.Reply.{Reply}

loan_whole : (s : Kept) (t : List Extent) (b : List ℕ) (call : Call) (a : Answer) (u : List Extent) (d : List ℕ) → length t ≡ 12 → Lent s t b call a u d → Serves (plain_of s t) b call (served_with a u) d
loan_whole s t b call a u d long L =
    let whole : take 12 u ≡ u = take_all 12 u (omega (arith, L.kept)) in
    subst (λ (x : List Extent). Serves (plain_of s t) b call (served_with a x) d) whole
    (subst (λ (x : List Extent). Serves (plain_of s x) b call (served_as a u) d) (take_all 12 t (omega arith)) (L.served (omega arith)))

pub loan_served : (h : Host) (us : List Extent) (b : List ℕ) (call : Call) (a : Answer) (d : List ℕ) (r : Reply) → length h.runs ≡ 12 → Lent h.kept h.runs b call a us d
    → r ≡ reply_with a us → Serves (shown h) b call (told r) d
loan_served h us b call a d r long L er = subst (λ (y : Reply). Serves (shown h) b call (told y) d) (sym er) (loan_whole h.kept h.runs b call a us d long L)
