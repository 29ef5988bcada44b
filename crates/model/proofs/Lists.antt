-- The class lists stay those of the pages with a clear mark.
use mathlib.Core.Path.{◌≡◌, refl, sym, ap, ◌∙◌}
use mathlib.Core.Logic.{◌⊎◌, inl, inr, ◌≢◌}
use mathlib.Core.Bool.{Bool, true, false}
use mathlib.Core.List.{List, [], ◌∷◌}
use Prim.Native.Nat.{ℕ, ◌≤◌}
use native.Mathlib.Omega.{arith}
use lib.Dec.{eqb}
use borrow.Author.Tests.{eqb-true, eq-eqb, ne_eqb}
use Rattle.base.specs.Functions.{upd}
use Rattle.base.specs.Lists.{Mem, NoDup}
use Rattle.base.proofs.Cases.{never, eq?, and_true}
use Rattle.base.proofs.Functions.{upd_same, upd_other}
use Rattle.model.specs.Classes.{has_clear}
use Rattle.model.specs.State.{Page, idle, slab, taken, inside, edge, is_open}
use Rattle.model.specs.WellFormed.{TableOk, ListsOk}
use Rattle.model.proofs.Table.{slab_ok}

-- ---- a page on its class list

pub open_slab : (c : ℕ) (m : ℕ → Bool) → is_open c (slab c m) ≡ has_clear c m
unfolding is_open
open_slab c m = rw (eq-eqb c c refl)

pub open_other : (c d : ℕ) (m : ℕ → Bool) → d ≢ c → is_open d (slab c m) ≡ false
unfolding is_open
open_other c d m h = rw (ne_eqb c d (λ e. h (sym e)))

-- an open page of class c is a class page of c
pub open_is : (c : ℕ) (x : Page) → is_open c x ≡ true → (m : ℕ → Bool) × (x ≡ slab c m) × (has_clear c m ≡ true)
unfolding is_open
open_is c idle e = absurd (never (cc))
open_is c (slab d m) e =
    let (a, b) = and_true (eqb d c) (has_clear c m) e in
    (m, ap (λ (z : ℕ). slab z m) (eqb-true d c a), b)
open_is c (taken n) e = absurd (never (cc))
open_is c inside e = absurd (never (cc))
open_is c edge e = absurd (never (cc))

-- ---- the class lists

-- there is none past class 8
pub no_list_past : {size : ℕ} {f : ℕ → Page} {lists : ℕ → List ℕ} → TableOk size f → ListsOk f lists → (c : ℕ) → 9 ≤ c → lists c ≡ []
no_list_past {size} {f} {lists} table ok c h = go (lists c) refl
  where
    go : (l : List ℕ) → lists c ≡ l → lists c ≡ []
    go [] e = e
    go (p ∷ rest) e =
        let (m, was, clear) = open_is c (f p) (ok.holds c p (rw e (inl refl))) in
        absurd (omega (arith, (slab_ok table was).in_range))

pub lists_same : {f f' : ℕ → Page} {lists : ℕ → List ℕ} → ListsOk f lists → ((c j : ℕ) → is_open c (f' j) ≡ is_open c (f j)) → ListsOk f' lists
lists_same ok h = record {
  once = ok.once;
  holds = λ c p m. h c p ∙ ok.holds c p m;
  all = λ c p e. ok.all c p (sym (h c p) ∙ e);
}

-- the list of class c becomes l, and the pages of the other classes stay
pub lists-upd : {f f' : ℕ → Page} {lists : ℕ → List ℕ} (c : ℕ) (l : List ℕ) → ListsOk f lists →
    ((d j : ℕ) → d ≢ c → is_open d (f' j) ≡ is_open d (f j)) → NoDup l → ((j : ℕ) → Mem j l → is_open c (f' j) ≡ true) →
    ((j : ℕ) → is_open c (f' j) ≡ true → Mem j l) → ListsOk f' (upd lists c l)
lists-upd {f} {f'} {lists} c l ok stay once holds all = record {
  once = λ d. go_once d (eq? d c);
  holds = λ d p m. go_holds d p (eq? d c) m;
  all = λ d p e. go_all d p (eq? d c) e;
}
  where
    go_once : (d : ℕ) → (d ≡ c) ⊎ (d ≢ c) → NoDup (upd lists c l d)
    go_once d (inl p) = rw (p, upd_same lists c l) once
    go_once d (inr p) = rw (upd_other lists c l d p) (ok.once d)

    go_holds : (d p : ℕ) → (d ≡ c) ⊎ (d ≢ c) → Mem p (upd lists c l d) → is_open d (f' p) ≡ true
    go_holds d p (inl q) m = rw q (holds p (rw (q, upd_same lists c l) at m))
    go_holds d p (inr q) m = stay d p q ∙ ok.holds d p (rw (upd_other lists c l d q) at m)

    go_all : (d p : ℕ) → (d ≡ c) ⊎ (d ≢ c) → is_open d (f' p) ≡ true → Mem p (upd lists c l d)
    go_all d p (inl q) e = rw (q, upd_same lists c l) (all p (rw q at e))
    go_all d p (inr q) e = rw (upd_other lists c l d q) (ok.all d p (sym (stay d p q) ∙ e))
