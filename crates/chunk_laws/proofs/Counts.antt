-- What one changed page contributes to the counts of a state, and how many marks a page has.
use mathlib.Core.Path.{◌≡◌, refl, sym, ap, ◌∙◌}
use mathlib.Core.Logic.{◌⊎◌, inl, inr, ◌≢◌}
use mathlib.Core.Bool.{Bool, true, false, ◌&&◌, not, and-false}
use Prim.Native.Nat.{ℕ, zero, suc, ◌+◌, ◌-◌, ◌*◌, ◌≤◌, ◌<◌}
use native.Mathlib.Omega.{arith}
use native.Mathlib.Nat.{add-mul}
use lib.Dec.{leb}
use borrow.Author.Tests.{eq-eqb, lt-ltb, le-ltb, le-leb, lt-leb, not-false}
use Rattle.base.specs.Tests.{pick}
use Rattle.base.specs.Count.{sum, bit, count}
use Rattle.base.proofs.Cases.{eq?, lt?}
use Rattle.base.proofs.Count.{sum_ext, sum-zero, sum_bump}
use Rattle.base.proofs.Search.{any_false}
use Rattle.model.specs.Classes.{chunks, own, counted, has_clear, has_taken}
use Rattle.model.specs.State.{Page, slab, State, is_idle}
use Rattle.model.specs.View.{is_class, kind_of, used_on, used_of, total_in, shown}
use Rattle.model.specs.WellFormed.{ClassOk}
use Rattle.model.proofs.Classes.{large-chunks, own-few}
use Rattle.rules.specs.Rules.{free_in}
use Rattle.map_count.specs.Mirror.{map_bits}
use Rattle.map_count.proofs.Counts.{count-join}

-- ---- sums

-- one term differs
pub sum_swap : (h k : ℕ → ℕ) (n i : ℕ) → i < n → ((j : ℕ) → j < n → j ≢ i → k j ≡ h j) → sum k n + h i ≡ sum h n + k i
unfolding sum
sum_swap h k (suc n) i l e = go (eq? i n) (λ u. sum_swap h k n i u (λ j v d. e j (omega arith) d))
  where
    go : (i ≡ n) ⊎ (i ≢ n) → (i < n → sum k n + h i ≡ sum h n + k i) → sum k n + k n + h i ≡ sum h n + h n + k i
    go (inl q) ih =
        let z : sum k n ≡ sum h n = sum_ext k h n (λ j u. e j (omega arith) (omega arith)) in
        rw q (omega arith)
    go (inr q) ih = omega (arith, ih (omega arith), e n (omega arith) (λ d. q (sym d)))
sum_swap h k zero i l e = elim l [ ]

count-all : (q : ℕ → Bool) (n : ℕ) → ((i : ℕ) → i < n → q i ≡ true) → count q n ≡ n
unfolding count sum
count-all q zero h = refl
count-all q (suc n) h = let ih = count-all q n (λ i l. h i (omega arith)) in rw (h n (omega arith)) (omega arith)

count_none : (q : ℕ → Bool) (n : ℕ) → ((i : ℕ) → i < n → q i ≡ false) → count q n ≡ 0
unfolding count
count_none q n h = sum-zero (λ i. bit (q i)) n (λ i l. ap bit (h i l))

-- one more passes
count_bump : (q q' : ℕ → Bool) (n i : ℕ) → i < n → q i ≡ false → q' i ≡ true → ((j : ℕ) → j ≢ i → q' j ≡ q j) → count q' n ≡ count q n + 1
unfolding count
count_bump q q' n i l a b e = sum_bump (λ j. bit (q j)) (λ j. bit (q' j)) n i l (λ j u d. ap bit (e j d)) (rw (a, b))

-- ---- one changed page

module _ (m n : State) (size : n.size ≡ m.size) (p : ℕ) (below : p < m.size) (others : (q : ℕ) → q ≢ p → n.page q ≡ m.page q) where
  pub used-frame : (d : ℕ) → used_of n d + used_on d (m.page p) ≡ used_of m d + used_on d (n.page p)
  unfolding used_of
  used-frame d =
      rw size (sum_swap (λ q. used_on d (m.page q)) (λ q. used_on d (n.page q)) m.size p below (λ q l e. ap (used_on d) (others q e)))

  pub total-frame : (d : ℕ) → (shown n).total d + bit (is_class d (kind_of (m.page p))) * counted d ≡ (shown m).total d + bit (is_class d (kind_of (n.page p))) * counted d
  unfolding shown total_in count
  total-frame d =
      let z : sum (λ q. bit (is_class d (kind_of (n.page q)))) m.size + bit (is_class d (kind_of (m.page p)))
      ≡ sum (λ q. bit (is_class d (kind_of (m.page q)))) m.size + bit (is_class d (kind_of (n.page p))) =
      sum_swap _ (λ q. bit (is_class d (kind_of (n.page q)))) m.size p below (λ q l e. ap (λ (x : Page). bit (is_class d (kind_of x))) (others q e)) in
      rw (size, ← add-mul, z, add-mul)

  pub free-frame : free_in n.page n.size + bit (is_idle (m.page p)) ≡ free_in m.page m.size + bit (is_idle (n.page p))
  unfolding free_in count
  free-frame =
      rw size (sum_swap (λ q. bit (is_idle (m.page q))) (λ q. bit (is_idle (n.page q))) m.size p below (λ q l e. ap (λ (x : Page). bit (is_idle x)) (others q e)))

-- a page of another class, or of none
pub used-none : (d : ℕ) (x : Page) → is_class d (kind_of x) ≡ false → used_on d x ≡ 0
used-none d x e = count_none _ (chunks d) (λ i l. rw (e, and-false (leb (own d) i)))

-- ---- the marks of a class page

module _ (c : ℕ) where
  taken? : (ℕ → Bool) → ℕ → Bool
  taken? k i = leb (own c) i && k i

  used-marks : (k : ℕ → Bool) → used_on c (slab c k) ≡ count (taken? k) (chunks c)
  unfolding taken?
  used-marks k = rw (eq-eqb c c refl)

  -- one more chunk
  pub used_bump : (k k' : ℕ → Bool) (i : ℕ) → own c ≤ i → i < chunks c → k i ≡ false → k' i ≡ true → ((j : ℕ) → j ≢ i → k' j ≡ k j)
      → used_on c (slab c k') ≡ used_on c (slab c k) + 1
  unfolding taken?
  used_bump k k' i o l a b e =
      used-marks k'
      ∙ count_bump (taken? k) (taken? k') (chunks c) i l (rw (le-leb (own c) i o) a) (rw (le-leb (own c) i o) b)
      (λ j d. ap (λ (t : Bool). leb (own c) j && t) (e j d))
      ∙ ap (λ (x : ℕ). x + 1) (sym (used-marks k))

  pub used-no : (k : ℕ → Bool) → has_taken c k ≡ false → used_on c (slab c k) ≡ 0
  unfolding taken? has_taken
  used-no k h = used-marks k ∙ count_none (taken? k) (chunks c) (any_false (λ i. leb (own c) i && k i) (chunks c) h)

  -- the map's own marks and those of chunks in callers' hands
  own_marks : (k : ℕ → Bool) → c ≤ 8 → ((i : ℕ) → i < own c → k i ≡ true) → count k (chunks c) ≡ own c + used_on c (slab c k)
  unfolding taken?
  own_marks k ok set =
      let d : ℕ = chunks c - own c in
      let z : chunks c ≡ own c + d = omega (arith, own-few c ok) in
      let a : count k (own c + d) ≡ count k (own c) + count (λ i. k (own c + i)) d = count-join k (own c) d in
      let b : count (taken? k) (own c + d) ≡ count (taken? k) (own c) + count (λ i. taken? k (own c + i)) d = count-join (taken? k) (own c) d in
      let e : count k (own c) ≡ own c = count-all k (own c) set in
      let f : count (taken? k) (own c) ≡ 0 = count_none (taken? k) (own c) (λ i l. rw (lt-leb (own c) i l)) in
      let g : count (λ i. taken? k (own c + i)) d ≡ count (λ i. k (own c + i)) d = unfold count in sum_ext _ _ d (λ i l. rw (le-leb (own c) (own c + i) (omega arith))) in
      ap (count k) z ∙ (omega arith) ∙ ap (λ (x : ℕ). own c + x) (sym (used-marks k ∙ ap (count (taken? k)) z))

  module _ {k : ℕ → Bool} (ok : ClassOk c k) where
    -- no mark is set past the chunks
    bits_chunks : count k (map_bits c) ≡ count k (chunks c)
    unfolding map_bits pick
    bits_chunks = go (lt? c 3)
      where
        go : (c < 3) ⊎ (3 ≤ c) → count k (map_bits c) ≡ count k (chunks c)
        go (inl h) = rw (lt-ltb c 3 h)
        go (inr h) =
            let d : ℕ = 64 - chunks c in
            let z : 64 ≡ chunks c + d = omega (arith, large-chunks c h) in
            rw (le-ltb c 3 h)
            (ap (count k) z ∙ count-join k (chunks c) d
            ∙ omega (arith, count_none (λ i. k (chunks c + i)) d (λ i l. ok.past_clear (chunks c + i) (omega arith))))

    pub marks-count : count k (map_bits c) ≡ own c + used_on c (slab c k)
    marks-count = bits_chunks ∙ own_marks k ok.in_range ok.own-set

    pub marks-all : has_clear c k ≡ false → count k (map_bits c) ≡ chunks c
    unfolding has_clear
    marks-all h = bits_chunks ∙ count-all k (chunks c) (λ i l. not-false (k i) (any_false (λ j. not (k j)) (chunks c) h i l))
