-- The own marks of a map are the top bits of its first word.
use mathlib.Core.Path.{◌≡◌, refl, sym, ap, ◌∙◌}
use mathlib.Core.Logic.{◌⊎◌, inl, inr}
use mathlib.Core.Bool.{Bool, true, false}
use mathlib.Core.List.{List}
use Prim.Native.Nat.{ℕ, zero, suc, ◌+◌, ◌-◌, ◌*◌, ◌/◌, ◌^◌, ◌≤◌, ◌<◌}
use native.Mathlib.Omega.{arith}
use native.Mathlib.Nat.{pow-suc, suc-mul, mul-le-mul_right}
use lib.Dec.{leb, ltb}
use lib.ListN.{length}
use borrow.Author.Tests.{lt-ltb, le-ltb, le-leb, lt-leb, leb-true}
use Rattle.base.specs.Count.{bit}
use Rattle.base.specs.Tests.{pick, all_below}
use Rattle.base.proofs.AllBelow.{all_same}
use Rattle.base.proofs.Cases.{lt?, same_test}
use Rattle.words.specs.Word.{Bytes, word}
use Rattle.records.specs.Layout.{no_page, pages_from}
use Rattle.maps.specs.Bitmap.{mark, bits_of}
use Rattle.maps.proofs.Bits.{bits_small, bits_join}
use Rattle.maps.proofs.Words.{word-marks}
use Rattle.model.specs.Classes.{chunks, own}
use Rattle.map_count.proofs.Marked.{own-fits}
use Rattle.rules.specs.Bytes.{pages_in, map_base, mark_at}
use Rattle.classes.specs.Mirror.{own_word}
use Rattle.classes.proofs.Numbers.{own-small}

-- a marks are all set where their number is as large as it can be
all_most : (m : ℕ → Bool) (a : ℕ) → leb (2 ^ a - 1) (bits_of m a) ≡ all_below m a
unfolding bits_of all_below pick
all_most m zero = refl
all_most m (suc a) = go (m a) (all_most m a) (bits_small m a)
  where
    go : (b : Bool) → leb (2 ^ a - 1) (bits_of m a) ≡ all_below m a → bits_of m a < 2 ^ a → leb (2 ^ suc a - 1) (2 * bits_of m a + bit b) ≡ pick b (all_below m a) false
    go true ih h =
        rw (sym ih, pow-suc 2 a)
        (same_test (leb (2 ^ a * 2 - 1) (2 * bits_of m a + 1)) (leb (2 ^ a - 1) (bits_of m a))
        (λ e. le-leb (2 ^ a - 1) (bits_of m a) (omega (arith, leb-true (2 ^ a * 2 - 1) (2 * bits_of m a + 1) e)))
        (λ e. le-leb (2 ^ a * 2 - 1) (2 * bits_of m a + 1) (omega (arith, leb-true (2 ^ a - 1) (bits_of m a) e))))
    go false ih h = rw (pow-suc 2 a) (lt-leb (2 ^ a * 2 - 1) (2 * bits_of m a + 0) (omega arith))

-- y D is at most x D and less than D more exactly where y is at most x
above : (y x D r : ℕ) → r < D → leb (y * D) (x * D + r) ≡ leb y x
above y x D r h = go (lt? x y)
  where
    go : (x < y) ⊎ (y ≤ x) → leb (y * D) (x * D + r) ≡ leb y x
    go (inl l) =
        let k : suc x * D ≤ y * D = mul-le-mul_right D l in
        let e : suc x * D ≡ x * D + D = suc-mul x D in
        rw (lt-leb y x l) (lt-leb (y * D) (x * D + r) (omega arith))
    go (inr l) =
        let k : y * D ≤ x * D = mul-le-mul_right D l in
        rw (le-leb y x l) (le-leb (y * D) (x * D + r) (omega arith))

-- and where the number of a + d marks, of which they are the first, is at least theirs with the rest clear
top_most : (m : ℕ → Bool) (a d : ℕ) → leb ((2 ^ a - 1) * 2 ^ d) (bits_of m (a + d)) ≡ all_below m a
top_most m a d =
    rw (bits_join m a d)
    (above (2 ^ a - 1) (bits_of m a) (2 ^ d) (bits_of (λ i. m (a + i)) d) (bits_small (λ i. m (a + i)) d) ∙ all_most m a)

module _ (w : ℕ) (s : List ℕ) (n p c k : ℕ) (pages : n ≡ pages_in w s) (h : p < n) (place : 8 * k ≡ map_base w n p c) where
  -- the map and the words after it lie inside the pool
  pub map-inside : k + 7 < length s / 8
  unfolding map_base pick
  map-inside = go (lt? c 3)
    where
      go : (c < 3) ⊎ (3 ≤ c) → k + 7 < length s / 8
      go (inl l) = let e : 8 * k ≡ pages_from w n + 4096 * p = rw (lt-ltb c 3 l) at place in omega arith
      go (inr l) = let e : 8 * k ≡ 8 * (1 + 9 * w + 2 * p) = rw (le-ltb c 3 l) at place in omega arith

  pub own_top : Bytes s → leb (own_word c) (word s k) ≡ all_below (mark_at w s p c) (own c)
  unfolding own_word mark_at pick
  own_top B =
      let o : own c + (64 - own c) ≡ 64 = omega (arith, own-small c) in
      rw (word-marks s B k (omega (arith, map-inside)))
      (ap (λ (x : ℕ). leb ((2 ^ own c - 1) * 2 ^ (64 - own c)) (bits_of (mark s (8 * k)) x)) (sym o) ∙ top_most (mark s (8 * k)) (own c) (64 - own c)
      ∙ all_same _ _ (own c) (λ i l. same i (omega (arith, own-fits c))))
    where
      same : (i : ℕ) → i < chunks c → mark s (8 * k) i ≡ pick (ltb i (chunks c)) (mark s (map_base w (pages_in w s) p c) i) false
      same i l = unfold pick in rw (lt-ltb i (chunks c) l, place, pages)

-- what the code reads
pub own_read : (w : ℕ) (s : List ℕ) (n p c k : ℕ) (x y : ℕ) → (n ≡ pages_in w s) × (p < n) × (n ≤ no_page) → 8 * k ≡ map_base w n p c → Bytes s
    → x ≡ own_word c → y ≡ word s k → leb x y ≡ all_below (mark_at w s p c) (own c)
own_read w s n p c k x y h e B a b = rw (a, b) (own_top w s n p c k h.0 h.1 e B)
