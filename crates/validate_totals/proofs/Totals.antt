-- The counts that the counters hold are those of rules 3 to 6.
use mathlib.Core.Path.{◌≡◌, refl, ◌∙◌}
use mathlib.Core.Bool.{Bool, true, false, not}
use mathlib.Core.List.{List}
use Prim.Native.Nat.{ℕ, zero, suc, ◌+◌, ◌*◌, ◌/◌, ◌%◌, ◌≤◌, ◌<◌}
use native.Mathlib.Omega.{arith}
use lib.Dec.{eqb}
use lib.ListN.{get_or}
use borrow.Author.Tests.{lt-ltb, ne_eqb}
use Rattle.base.specs.Tests.{pick, all_below}
use Rattle.base.specs.Count.{bit, sum, count}
use Rattle.base.proofs.Count.{sum_ext}
use Rattle.model.specs.Classes.{counted}
use Rattle.model.specs.State.{is_idle}
use Rattle.model.specs.View.{kind_of, is_class, used_on, used_of, total_in, shown}
use Rattle.map_count.proofs.Counts.{count_le}
use Rattle.rules.specs.Fields.{Fields, page_at}
use Rattle.rules.specs.Read.{is_head, open_at, read_fields}
use Rattle.rules.specs.Rules.{in_use, full_alone, rule5, free_in}
use Rattle.validate_pages.specs.Mirror.{class_share, free_share, fault_share, share, Counted}
use Rattle.classes.proofs.Numbers.{chunks_512}
use Rattle.validate_pages.proofs.Pass.{sum_le, used_le}

-- ---- sums of shares

sum-three : (a b d : ℕ → ℕ) (n : ℕ) → sum (λ p. a p + 4294967296 * b p + 281474976710656 * d p) n ≡ sum a n + 4294967296 * sum b n + 281474976710656 * sum d n
unfolding sum
sum-three a b d zero = refl
sum-three a b d (suc n) = let ih = sum-three a b d n in omega arith

sum-two : (a b : ℕ → ℕ) (n : ℕ) → sum (λ p. a p + 4294967296 * b p) n ≡ sum a n + 4294967296 * sum b n
unfolding sum
sum-two a b zero = refl
sum-two a b (suc n) = let ih = sum-two a b n in omega arith

-- no number fails a test exactly where the count of those that do is 0
none-fails : (q : ℕ → Bool) (n : ℕ) → eqb (count (λ p. not (q p)) n) 0 ≡ all_below q n
unfolding count sum all_below pick
none-fails q zero = refl
none-fails q (suc n) = go (q n) (none-fails q n)
  where
    go : (b : Bool) → eqb (count (λ p. not (q p)) n) 0 ≡ all_below q n → eqb (count (λ p. not (q p)) n + bit (not b)) 0 ≡ pick b (all_below q n) false
    go true e = let z : count (λ p. not (q p)) n + 0 ≡ count (λ p. not (q p)) n = omega arith in rw z e
    go false e = ne_eqb (count (λ p. not (q p)) n + 1) 0 (λ z. omega arith)

-- ---- the counts

module _ (v : Fields) (n : ℕ) (t : List ℕ) (most : n ≤ 4096) (K : Counted v n n t) where
  module _ (c : ℕ) (h : c < 9) where
    class_counter : get_or t c 0 ≡ sum (λ p. used_on c (page_at v n p)) n + 4294967296 * count (λ p. is_class c (kind_of (page_at v n p))) n + 281474976710656 * count (open_at v n c) n
    unfolding share class_share pick count
    class_counter = K c (omega arith) ∙ sum_ext _ _ n (λ p l. rw (lt-ltb c 9 h)) ∙ sum-three _ _ _ n

    used-small : sum (λ p. used_on c (page_at v n p)) n ≤ n * 512
    used-small = sum_le _ n 512 (λ p. omega (arith, used_le c (page_at v n p), chunks_512 c))

    pub used-is : used_of (read_fields v n) c ≡ get_or t c 0 % 4294967296
    unfolding used_of read_fields
    used-is =
        let e = class_counter in
        omega (arith, used-small)

    pages-is : count (λ p. is_class c (kind_of (page_at v n p))) n ≡ get_or t c 0 / 4294967296 % 65536
    pages-is =
        let e = class_counter in
        omega (arith, used-small, count_le (λ p. is_class c (kind_of (page_at v n p))) n)

    pub total-is : (shown (read_fields v n)).total c ≡ get_or t c 0 / 4294967296 % 65536 * counted c
    unfolding shown read_fields total_in
    total-is = rw (← pages-is)

    pub open_is : count (open_at v n c) n ≡ get_or t c 0 / 281474976710656
    open_is =
        let e = class_counter in
        omega (arith, used-small, count_le (λ p. is_class c (kind_of (page_at v n p))) n)

  free_counter : get_or t 9 0 ≡ count (λ p. is_idle (page_at v n p)) n + 4294967296 * count (is_head v n) n
  unfolding share free_share pick count
  free_counter = K 9 (omega arith) ∙ sum-two _ _ n

  pub idle-is : free_in (page_at v n) n ≡ get_or t 9 0 % 4294967296
  unfolding free_in
  idle-is = let e = free_counter in omega (arith, count_le (λ p. is_idle (page_at v n p)) n)

  pub heads_is : count (is_head v n) n ≡ get_or t 9 0 / 4294967296 % 65536
  heads_is = let e = free_counter in omega (arith, count_le (λ p. is_idle (page_at v n p)) n, count_le (is_head v n) n)

  fault_counter : get_or t 10 0 ≡ count (λ p. not (in_use (page_at v n p))) n + 4294967296 * count (λ p. not (full_alone v n p)) n
  unfolding share fault_share pick count
  fault_counter = K 10 (omega arith) ∙ sum-two _ _ n

  pub rule5-is : eqb (get_or t 10 0 % 4294967296) 0 ≡ rule5 v n
  unfolding rule5
  rule5-is =
      let e : count (λ p. not (in_use (page_at v n p))) n ≡ get_or t 10 0 % 4294967296 =
      omega (arith, fault_counter, count_le (λ p. not (in_use (page_at v n p))) n) in
      rw (← e) (none-fails (λ p. in_use (page_at v n p)) n)

  pub alone_is : eqb (get_or t 10 0 / 4294967296 % 65536) 0 ≡ all_below (full_alone v n) n
  alone_is =
      let e : count (λ p. not (full_alone v n p)) n ≡ get_or t 10 0 / 4294967296 % 65536 =
      omega (arith, fault_counter, count_le (λ p. not (in_use (page_at v n p))) n, count_le (λ p. not (full_alone v n p)) n) in
      rw (← e) (none-fails (full_alone v n) n)
