-- A new map, written a byte at a time, and lent by its pool.
use mathlib.Core.Path.{◌≡◌, sym, ap, ◌∙◌}
use mathlib.Core.Logic.{◌⊎◌, inl, inr}
use mathlib.Core.List.{List, ◌++◌, append-nil}
use Prim.Native.Nat.{ℕ, suc, ◌+◌, ◌-◌, ◌*◌, ◌≤◌, ◌<◌}
use native.Mathlib.Nat.{add-sub_cancel_left}
use native.Mathlib.Numerals.{add-one}
use native.Mathlib.Omega.{arith}
use lib.Dec.{ltb}
use lib.ListN.{length, take, drop, set, drop_of_length-le}
use lib.Seq.{drop-cons, set_at, append_snoc}
use borrow.Author.Tests.{lt-ltb, le-ltb}
use Rattle.base.proofs.Cases.{lt?}
use Rattle.maps.specs.Bitmap.{bits_of}
use Rattle.maps.specs.Mirror.{map_bytes, new_map, splice}
use Rattle.maps.proofs.Bits.{bits_ext}
use Rattle.maps.proofs.Maps.{length-map_bytes}
use Rattle.maps.proofs.Splice.{part_length, splice_lent}

pub length-new_map : (n k : ℕ) → length (new_map n k) ≡ n
unfolding new_map
length-new_map n k = length-map_bytes (λ i. ltb i k) n

module _ (d : List ℕ) (k : ℕ) where
  -- byte j: as many of its marks are set as are left of k
  pub new_more : (j v left : ℕ) → j < length d → left ≡ k - 8 * j → v ≡ bits_of (λ i. ltb i left) 8 → set (new_map j k ++ drop j d) j v ≡ new_map (j + 1) k ++ drop (j + 1) d
  unfolding new_map map_bytes
  new_more j v left h l e =
      let b : v ≡ bits_of (λ i. ltb (8 * j + i) k) 8 = e ∙ bits_ext (λ i. ltb i left) (λ i. ltb (8 * j + i) k) 8 (λ i u. shift i (lt? i left)) in
      rw (add-one j, drop-cons d j 0 h, set_at (map_bytes (λ i. ltb i k) j) _ (drop (suc j) d) v j (length-map_bytes (λ i. ltb i k) j), b)
      (sym (append_snoc (map_bytes (λ i. ltb i k) j) _ (drop (suc j) d)))
    where
      shift : (i : ℕ) → (i < left) ⊎ (left ≤ i) → ltb i left ≡ ltb (8 * j + i) k
      shift i (inl a) = lt-ltb i left a ∙ sym (lt-ltb (8 * j + i) k (omega arith))
      shift i (inr a) = le-ltb i left a ∙ sym (le-ltb (8 * j + i) k (omega arith))

  pub new-done : (m : List ℕ) (j : ℕ) → j ≤ length d → length d ≤ j → m ≡ new_map j k ++ drop j d → m ≡ new_map (length d) k
  new-done m j h l e =
      let z : j ≡ length d = omega arith in
      e ∙ rw (drop_of_length-le d {i = j} l, append-nil, z)

-- a pool whose n bytes from a on were lent, and came back as a new map
pub new_lent : (s ys : List ℕ) (a n k : ℕ) → a + n ≤ length s → ys ≡ new_map (length (take (a + n - a) (drop a s))) k
    → take a s ++ (ys ++ drop (a + n - a) (drop a s)) ≡ splice s a (new_map n k)
new_lent s ys a n k h e =
    let l : length (take (a + n - a) (drop a s)) ≡ n = part_length s a (a + n) (omega arith) h ∙ add-sub_cancel_left a n in
    let d : ys ≡ new_map n k = e ∙ ap (λ (x : ℕ). new_map x k) l in
    splice_lent s ys a (a + n) (omega arith) (omega (arith, ap length d, length-new_map n k)) ∙ ap (splice s a) d
