-- The number of set marks of a class page says whether one is clear, whether a caller holds a chunk, and how many.
use mathlib.Core.Path.{◌≡◌, refl, ap, ◌∙◌}
use mathlib.Core.Bool.{Bool, true, false, ◌&&◌, not}
use Prim.Native.Nat.{ℕ, zero, suc, ◌+◌, ◌-◌, ◌≤◌, ◌<◌}
use native.Mathlib.Omega.{arith}
use lib.Dec.{eqb, leb, ltb}
use borrow.Author.Tests.{le-leb, lt-leb, lt-ltb, ltb-true, eq-eqb}
use Rattle.base.specs.Tests.{all_below}
use Rattle.base.specs.Search.{any}
use Rattle.base.specs.Count.{bit, sum, count}
use Rattle.base.proofs.Cases.{same_test}
use Rattle.base.proofs.Count.{sum_ext, sum-zero}
use Rattle.base.proofs.Search.{any_some, any_false}
use Rattle.base.proofs.Tests.{both_true}
use Rattle.model.specs.Classes.{chunks, own, has_clear, has_taken}
use Rattle.model.specs.State.{slab}
use Rattle.model.specs.View.{used_on}
use Rattle.map_count.proofs.Counts.{count-join}

-- ---- counts

pub count_ext : (q r : ℕ → Bool) (n : ℕ) → ((i : ℕ) → i < n → q i ≡ r i) → count q n ≡ count r n
unfolding count
count_ext q r n e = sum_ext _ _ n (λ i l. ap bit (e i l))

pub count_none : (q : ℕ → Bool) (n : ℕ) → ((i : ℕ) → i < n → q i ≡ false) → count q n ≡ 0
unfolding count
count_none q n e = sum-zero _ n (λ i l. ap bit (e i l))

count-all : (q : ℕ → Bool) (n : ℕ) → all_below q n ≡ true → count q n ≡ n
unfolding count sum all_below
count-all q zero e = refl
count-all q (suc n) e =
    let x = both_true (q n) (all_below q n) e in
    let ih = count-all q n x.1 in
    rw x.0 (omega arith)

count-not : (q : ℕ → Bool) (n : ℕ) → count (λ i. not (q i)) n + count q n ≡ n
unfolding count sum
count-not q zero = refl
count-not q (suc n) = go (q n) (count-not q n)
  where
    go : (b : Bool) → count (λ i. not (q i)) n + count q n ≡ n → count (λ i. not (q i)) n + bit (not b) + (count q n + bit b) ≡ suc n
    go true e = omega arith
    go false e = omega arith

count-first : (r : ℕ → Bool) (m : ℕ) → r 0 ≡ true → 0 < count r (suc m)
unfolding count sum
count-first r zero e = rw e (omega arith)
count-first r (suc m) e = let ih = count-first r m e in omega arith

count-some : (q : ℕ → Bool) (n i : ℕ) → i < n → q i ≡ true → 0 < count q n
count-some q n i l e =
    let k : ℕ = n - suc i in
    let z : i + suc k ≡ n = omega arith in
    let a : i + 0 ≡ i = omega arith in
    let t : 0 < count (λ j. q (i + j)) (suc k) = count-first (λ j. q (i + j)) k (rw a e) in
    let c : count q (i + suc k) ≡ count q i + count (λ j. q (i + j)) (suc k) = count-join q i (suc k) in
    let d : count q (i + suc k) ≡ count q n = ap (count q) z in
    omega arith

pub any-count : (q : ℕ → Bool) (n : ℕ) → any q n ≡ ltb 0 (count q n)
any-count q n =
    same_test (any q n) (ltb 0 (count q n))
    (λ e. let x = any_some q n e in lt-ltb 0 (count q n) (count-some q n x.0 x.1 x.2))
    (λ e. go (any q n) refl e)
  where
    go : (b : Bool) → any q n ≡ b → ltb 0 (count q n) ≡ true → any q n ≡ true
    go true d e = d
    go false d e = let z = count_none q n (any_false q n d) in absurd (omega (arith, ltb-true 0 (count q n) e))

-- ---- the marks of a page

pub own-fits : (c : ℕ) → own c ≤ chunks c
unfolding own chunks
own-fits zero = omega arith
own-fits (suc zero) = omega arith
own-fits (suc (suc zero)) = omega arith
own-fits (suc (suc (suc c))) = omega arith

-- a test of the marks past the first a
count_past : (q m : ℕ → Bool) (a n : ℕ) → a ≤ n → all_below m a ≡ true → ((i : ℕ) → i < a → q i ≡ false) → ((i : ℕ) → a ≤ i → q i ≡ m i) → count q n ≡ count m n - a
count_past q m a n h o f g =
    let d : ℕ = n - a in
    let z : a + d ≡ n = omega arith in
    let x : count q (a + d) ≡ count q a + count (λ i. q (a + i)) d = count-join q a d in
    let y : count m (a + d) ≡ count m a + count (λ i. m (a + i)) d = count-join m a d in
    let u : count q a ≡ 0 = count_none q a f in
    let v : count m a ≡ a = count-all m a o in
    let s : count (λ i. q (a + i)) d ≡ count (λ i. m (a + i)) d = count_ext _ _ d (λ i l. g (a + i) (omega arith)) in
    let x' : count q (a + d) ≡ count q n = ap (count q) z in
    let y' : count m (a + d) ≡ count m n = ap (count m) z in
    omega arith

module _ (c : ℕ) (m : ℕ → Bool) where
  pub clear_count : has_clear c m ≡ ltb (count m (chunks c)) (chunks c)
  unfolding has_clear
  clear_count =
      any-count (λ i. not (m i)) (chunks c)
      ∙ same_test (ltb 0 (count (λ i. not (m i)) (chunks c))) (ltb (count m (chunks c)) (chunks c))
      (λ e. lt-ltb (count m (chunks c)) (chunks c) (omega (arith, ltb-true 0 (count (λ i. not (m i)) (chunks c)) e, count-not m (chunks c))))
      (λ e. lt-ltb 0 (count (λ i. not (m i)) (chunks c)) (omega (arith, ltb-true (count m (chunks c)) (chunks c) e, count-not m (chunks c))))

  module _ (o : all_below m (own c) ≡ true) where
    past : count (λ i. leb (own c) i && m i) (chunks c) ≡ count m (chunks c) - own c
    past =
        count_past (λ i. leb (own c) i && m i) m (own c) (chunks c) (own-fits c) o
        (λ i l. rw (lt-leb (own c) i l)) (λ i l. rw (le-leb (own c) i l))

    pub taken-count : has_taken c m ≡ ltb (own c) (count m (chunks c))
    unfolding has_taken
    taken-count =
        any-count (λ i. leb (own c) i && m i) (chunks c)
        ∙ rw past
        (same_test (ltb 0 (count m (chunks c) - own c)) (ltb (own c) (count m (chunks c)))
        (λ e. lt-ltb (own c) (count m (chunks c)) (omega (arith, ltb-true 0 (count m (chunks c) - own c) e)))
        (λ e. lt-ltb 0 (count m (chunks c) - own c) (omega (arith, ltb-true (own c) (count m (chunks c)) e))))

    pub used-count : used_on c (slab c m) ≡ count m (chunks c) - own c
    used-count =
        count_past (λ i. leb (own c) i && (eqb c c && m i)) m (own c) (chunks c) (own-fits c) o
        (λ i l. rw (lt-leb (own c) i l)) (λ i l. rw (le-leb (own c) i l, eq-eqb c c refl))
