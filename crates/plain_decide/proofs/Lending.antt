-- Calls with a lent table of free runs, from what is decided on what is kept by value.
use mathlib.Core.Path.{◌≡◌, refl, sym, ap, ◌∙◌, subst}
use mathlib.Core.Bool.{Bool}
use mathlib.Core.List.{List, ◌++◌}
use Prim.Native.Nat.{ℕ, ◌≤◌, ◌<◌}
use native.Mathlib.Omega.{arith}
use lib.Dec.{eqb}
use lib.ListN.{length, get_or, take, drop, length-set}
use lib.Seq.{take_at, drop_at, length_front, length-take-le}
use Rattle.model.specs.Calls.{Call, Alloc, Free}
use Rattle.plain.specs.Table.{vacant, first_fit, carved_at, cleared, released}
use Rattle.plain.specs.Mirror.{answer_of, carved, returned, served_with, wanted_pages}
use Rattle.plain.specs.declared.Extent.{Extent}
use Rattle.plain.specs.declared.Kept.{Kept}
use Rattle.plain.specs.declared.Answer.{Answer}
use Rattle.plain.specs.declared.Done.{Done}
use Rattle.plain.proofs.Loops.{length-remade}
use Rattle.plain.proofs.Shapes.{either, length-pushed}
use Rattle.plain_rules.specs.Mirror.{table_ok}
use Rattle.plain_decide.specs.Calls.{Serves, seen, Lent}
use Rattle.plain_decide.specs.Mirror.{AllocDecides, FreeDecides, short_of}

pub lent_few : (s : Kept) (t : List Extent) (b : List ℕ) (call : Call) (r : Answer) → length t < 12 → r ≡ short_of s → Lent s t b call r t b
lent_few s t b call r h e = record { few = λ l. (e, refl, refl); served = λ l. absurd (omega arith); behind = refl; kept = refl }

-- ---- a table of 12 entries or more: its first 12 become the table x

module _ (s : Kept) (t : List Extent) (b : List ℕ) (call : Call) (a : Answer) (x : List Extent) (d : List ℕ) (h : 12 ≤ length t) (long : length x ≡ 12) where
  lent_whole : Serves (seen s t) b call (served_with a x) d → Lent s t b call a (x ++ drop 12 t) d
  lent_whole S = record {
    few = λ l. absurd (omega arith);
    served = λ l. subst (λ (y : List Extent). Serves (seen s t) b call (served_with a y) d) (sym (take_at x (drop 12 t) 12 long)) S;
    behind = drop_at x (drop 12 t) 12 long;
    kept = length_front t x 12 (long ∙ sym (length-take-le 12 t h));
  }

length-carved : (i k : ℕ) (t : List Extent) → length (carved i k t) ≡ length t
unfolding carved carved_at
length-carved i k t = either (λ (x : List Extent). length x ≡ length t) (eqb k 0) refl (simp length-set refl)

length-returned : (p k : ℕ) (t : List Extent) → length (returned p k t) ≡ length t
unfolding returned released cleared
length-returned p k t = either (λ (x : List Extent). length x ≡ length t) (eqb k 0) refl (length-pushed _ _ _ ∙ length-remade _ _ _)

pub lent_alloc : (s : Kept) (ys : List Extent) (b : List ℕ) (n k i : ℕ) (ok : Bool) (e : Extent) (d : Done) (us : List Extent) (ds : List ℕ) (r : Answer) → 12 ≤ length ys
    → k ≡ wanted_pages n → i ≡ first_fit k (take 12 ys) → e ≡ get_or (take 12 ys) i vacant → ok ≡ table_ok s.pages (take 12 ys)
    → AllocDecides s ok e b n d ds → us ≡ carved i d.len (take 12 ys) ++ drop 12 ys → r ≡ answer_of d → Lent s ys b (Alloc n) r us ds
lent_alloc s ys b n k i ok e d us ds r h ek ei ee eo D eu er =
    let l : length (take 12 ys) ≡ 12 = length-take-le 12 ys h in
    let at : i ≡ first_fit (wanted_pages n) (take 12 ys) = ei ∙ ap (λ (m : ℕ). first_fit m (take 12 ys)) ek in
    let S = D (take 12 ys) l eo (ee ∙ ap (λ (j : ℕ). get_or (take 12 ys) j vacant) at) in
    subst (λ (a : Answer). Lent s ys b (Alloc n) a us ds) (sym er)
    (subst (λ (u : List Extent). Lent s ys b (Alloc n) (answer_of d) u ds) (sym eu)
    (lent_whole s ys b (Alloc n) (answer_of d) (carved i d.len (take 12 ys)) ds h (length-carved i d.len (take 12 ys) ∙ l)
    (subst (λ (j : ℕ). Serves (seen s ys) b (Alloc n) (served_with (answer_of d) (carved j d.len (take 12 ys))) ds) (sym at) S)))

pub lent_free : (s : Kept) (ys : List Extent) (b : List ℕ) (off : ℕ) (ok : Bool) (d : Done) (us : List Extent) (ds : List ℕ) (r : Answer) → 12 ≤ length ys
    → ok ≡ table_ok s.pages (take 12 ys) → FreeDecides s ok b off d ds → us ≡ returned d.first d.len (take 12 ys) ++ drop 12 ys → r ≡ answer_of d → Lent s ys b (Free off) r us ds
lent_free s ys b off ok d us ds r h eo D eu er =
    let l : length (take 12 ys) ≡ 12 = length-take-le 12 ys h in
    subst (λ (a : Answer). Lent s ys b (Free off) a us ds) (sym er)
    (subst (λ (u : List Extent). Lent s ys b (Free off) (answer_of d) u ds) (sym eu)
    (lent_whole s ys b (Free off) (answer_of d) (returned d.first d.len (take 12 ys)) ds h (length-returned d.first d.len (take 12 ys) ∙ l) (D (take 12 ys) l eo)))
