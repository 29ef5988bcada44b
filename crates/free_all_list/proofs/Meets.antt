-- The list tried in code is the list tried on bytes, and taking back what was granted gives the slice at entry.
use Rattle.std.specs.Prelude.{Result, Ok, Err}
use mathlib.Core.Path.{subst, ◌≡◌, refl, sym, ap, ◌∙◌}
use mathlib.Core.Bool.{true, false}
use mathlib.Core.List.{List, [], ◌∷◌}
use Prim.Native.Nat.{ℕ, zero, suc, ◌+◌, ◌≤◌}
use native.Mathlib.Omega.{arith}
use lib.ListN.{length, take}
use Rattle.base.proofs.Cases.{never}
use Rattle.answers.specs.declared.Refusal.{Refusal}
use Rattle.answers.specs.Outcome.{number_of}
use Rattle.records.specs.Layout.{page_count}
use Rattle.model.specs.Calls.{Answer, at, freed, no}
use Rattle.model.specs.Ruling.{granted, refused, verdict}
use Rattle.rules.specs.Bytes.{pages_in}
use Rattle.free_all_model.specs.FreeAll.{Completion, stopped, onward}
use Rattle.free_all_model.specs.Mirror.{tried as triedOffset}
use Rattle.free_all_trial.specs.Mirror.{shown_trial, put_mark, tried_on}
use Rattle.free_all_try.specs.Mirror.{offset_tried, tried_verdict}
use Rattle.free_all_mark.specs.Mirror.{offset_put}
use Rattle.free_all_mark.proofs.Trying.{Trying, verdict_of, put_of, put-length, trying_next, taken_back}
use Rattle.free_all_list.specs.Mirror.{on_tried, list_tried, on_marked, list_marked, list_back, granted_of, completion_of}

-- ---- the answer

onward-refused : (k n : ℕ) (a : Answer) (rest : Completion) → refused n ≡ verdict a → stopped k n ≡ onward k a rest
unfolding onward
onward-refused k n (at off) rest e = absurd (never (cc))
onward-refused k n (freed m) rest e = absurd (never (cc))
onward-refused k n (no m) rest e = ap (stopped k) (cc)

onward-granted : (k : ℕ) (a : Answer) (rest : Completion) → granted ≡ verdict a → rest ≡ onward k a rest
unfolding onward
onward-granted k (at off) rest g = refl
onward-granted k (freed m) rest g = refl
onward-granted k (no m) rest g = absurd (never (cc))

module _ (w : ℕ) (s : List ℕ) (T : Trying w s) (off : ℕ) where
  -- an offset that is granted in code is granted in the trial, ..
  granted_too : offset_tried w s (pages_in w s) off ≡ Ok tt → verdict (triedOffset (shown_trial w s) off) ≡ granted
  granted_too e = sym (ap tried_verdict (sym e) ∙ verdict_of w s T off)

  -- .. and leaves its slice, of as many pages
  same_pages : pages_in w (put_mark false w s off) ≡ pages_in w s
  same_pages = ap (page_count w) (put-length w s T off)

pub answer-is : (w : ℕ) (s : List ℕ) → Trying w s → (k : ℕ) (offs : List ℕ) → completion_of (list_tried w s (pages_in w s) k offs) ≡ tried_on w s k offs
unfolding list_tried tried_on
answer-is w s T k [] = refl
answer-is w s T k (off ∷ offs) = go (offset_tried w s (pages_in w s) off) refl (λ g. answer-is w (put_mark false w s off) (trying_next w s T off g) (suc k) offs)
  where
    go : (y : Result (Unit {0}) Refusal) → offset_tried w s (pages_in w s) off ≡ y →
        (verdict (triedOffset (shown_trial w s) off) ≡ granted →
        completion_of (list_tried w (put_mark false w s off) (pages_in w (put_mark false w s off)) (suc k) offs) ≡ tried_on w (put_mark false w s off) (suc k) offs) →
        completion_of (on_tried k (offset_tried w s (pages_in w s) off) (list_tried w (offset_put false w s (pages_in w s) off) (pages_in w s) (suc k) offs))
        ≡ onward k (triedOffset (shown_trial w s) off) (tried_on w (put_mark false w s off) (suc k) offs)
    go (Err r) e ih = rw e (onward-refused k (number_of r) _ _ (ap tried_verdict (sym e) ∙ verdict_of w s T off))
    go (Ok _) e ih =
        let g = granted_too w s T off e in
        rw (e, put_of w s T off g) ((rw (same_pages w s T off) at (ih g)) ∙ onward-granted k _ _ (sym g))

-- ---- how many were granted

pub granted_in : (w : ℕ) (s : List ℕ) (P k : ℕ) (offs : List ℕ) →
    (k ≤ granted_of (list_tried w s P k offs) (k + length offs)) × (granted_of (list_tried w s P k offs) (k + length offs) ≤ k + length offs)
unfolding list_tried
granted_in w s P k [] = (omega arith, omega arith)
granted_in w s P k (off ∷ offs) = go (offset_tried w s P off) (granted_in w (offset_put false w s P off) P (suc k) offs)
  where
    go : (y : Result (Unit {0}) Refusal) →
        (suc k ≤ granted_of (list_tried w (offset_put false w s P off) P (suc k) offs) (suc k + length offs)) × (granted_of (list_tried w (offset_put false w s P off) P (suc k) offs) (suc k + length offs) ≤ suc k + length offs) →
        (k ≤ granted_of (on_tried k y (list_tried w (offset_put false w s P off) P (suc k) offs)) (k + suc (length offs))) × (granted_of (on_tried k y (list_tried w (offset_put false w s P off) P (suc k) offs)) (k + suc (length offs)) ≤ k + suc (length offs))
    go (Err r) ih = (omega arith, omega arith)
    go (Ok _) ih =
        let z : k + suc (length offs) ≡ suc k + length offs = omega arith in
        rw z (omega (arith, ih.0), ih.1)

-- ---- taken back

pub all_back : (w : ℕ) (s : List ℕ) → Trying w s → (k : ℕ) (offs : List ℕ) (n : ℕ) → granted_of (list_tried w s (pages_in w s) k offs) (k + length offs) ≡ k + n →
    list_back w (list_marked w s (pages_in w s) offs) (pages_in w s) (take n offs) ≡ s
unfolding list_tried list_marked list_back
all_back w s T k [] zero e = refl
all_back w s T k [] (suc n) e = refl
all_back w s T k (off ∷ offs) n e = go (offset_tried w s (pages_in w s) off) refl n e (λ g. all_back w (put_mark false w s off) (trying_next w s T off g) (suc k) offs)
  where
    P : ℕ
    P = pages_in w s

    t : List ℕ
    t = put_mark false w s off

    go : (y : Result (Unit {0}) Refusal) → offset_tried w s (pages_in w s) off ≡ y → (n : ℕ) →
        granted_of (on_tried k (offset_tried w s (pages_in w s) off) (list_tried w (offset_put false w s (pages_in w s) off) (pages_in w s) (suc k) offs)) (k + suc (length offs)) ≡ k + n →
        (verdict (triedOffset (shown_trial w s) off) ≡ granted → (n : ℕ) →
        granted_of (list_tried w (put_mark false w s off) (pages_in w (put_mark false w s off)) (suc k) offs) (suc k + length offs) ≡ suc k + n →
        list_back w (list_marked w (put_mark false w s off) (pages_in w (put_mark false w s off)) offs) (pages_in w (put_mark false w s off)) (take n offs) ≡ put_mark false w s off) →
        list_back w (on_marked (offset_tried w s (pages_in w s) off) (list_marked w (offset_put false w s (pages_in w s) off) (pages_in w s) offs) s) (pages_in w s) (take n (off ∷ offs)) ≡ s
    go (Err r) e zero h ih = rw e refl
    go (Err r) e (suc n) h ih = let z : k ≡ k + suc n = rw e at h in absurd (omega arith)
    go (Ok _) e zero h ih =
        let x = granted_in w (offset_put false w s P off) P (suc k) offs in
        let z : k + suc (length offs) ≡ suc k + length offs = omega arith in
        let y : granted_of (list_tried w (offset_put false w s P off) P (suc k) offs) (suc k + length offs) ≡ k + 0 = rw (e, z) at h in
        absurd (omega (arith, x.0))
    go (Ok _) e (suc n) h ih =
        let g = granted_too w s T off e in
        let z : k + suc (length offs) ≡ suc k + length offs = omega arith in
        let y : granted_of (list_tried w (offset_put false w s P off) P (suc k) offs) (suc k + length offs) ≡ k + suc n = rw (e, z) at h in
        let there : granted_of (list_tried w t P (suc k) offs) (suc k + length offs) ≡ suc k + n = (rw (put_of w s T off g) at y) ∙ omega arith in
        let back : list_back w (list_marked w t P offs) P (take n offs) ≡ t = rw (same_pages w s T off) at (ih g n (rw (same_pages w s T off) there)) in
        let marked : List ℕ = list_marked w (offset_put false w s P off) P offs in
        let on : on_marked (offset_tried w s P off) marked s ≡ marked = rw e refl in
        subst
        (λ (u : List ℕ). list_back w u P (take (suc n) (off ∷ offs)) ≡ s)
        (sym on)
        (subst
        (λ (u : List ℕ). offset_put true w (list_back w (list_marked w u P offs) P (take n offs)) P off ≡ s)
        (sym (put_of w s T off g))
        (ap (λ (u : List ℕ). offset_put true w u P off) back ∙ taken_back w s T off g))
