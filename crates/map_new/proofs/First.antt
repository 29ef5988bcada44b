-- The first word of a new map has all its marks.
use mathlib.Core.Path.{◌≡◌, refl, sym, ap, ◌∙◌}
use mathlib.Core.Bool.{not}
use mathlib.Core.List.{List, ◌++◌}
use Prim.Native.Nat.{ℕ, ◌+◌, ◌-◌, ◌*◌, ◌/◌, ◌^◌, ◌≤◌, ◌<◌}
use native.Mathlib.Omega.{arith}
use lib.Dec.{eqb, ltb}
use lib.ListN.{length, drop, set}
use lib.Seq.{drop_at}
use borrow.Author.Tests.{eqb-true, not-false}
use Rattle.base.specs.Search.{least, any}
use Rattle.base.proofs.Search.{any_false}
use Rattle.words.specs.Word.{Bytes, with_word}
use Rattle.words.proofs.Laws.{set_in}
use Rattle.maps.specs.Bitmap.{bits_of}
use Rattle.maps.specs.Mirror.{map_bytes, new_map, splice}
use Rattle.maps.proofs.Words.{set_word-map}
use Rattle.maps.proofs.Maps.{length-map_bytes}
use Rattle.maps.proofs.NewMap.{length-new_map, new_more}

-- a word with its first k bits set
pub top_bits : (k : ℕ) → k ≤ 63 → 18446744073709551615 - 18446744073709551615 / 2 ^ k ≡ bits_of (λ i. ltb i k) 64
unfolding any least bits_of
top_bits k h =
    eqb-true _ _ (not-false _ (any_false (λ k. not (eqb (18446744073709551615 - 18446744073709551615 / 2 ^ k) (bits_of (λ i. ltb i k) 64))) 64 refl k (omega arith)))

splice-first : (d ys : List ℕ) → length ys ≡ 8 → splice d (8 * 0) ys ≡ ys ++ drop 8 d
unfolding splice
splice-first d ys e = rw e

first_word : (d : List ℕ) (k v : ℕ) → Bytes d → 8 ≤ length d → v ≡ bits_of (λ i. ltb i k) 64 → with_word d 0 v ≡ new_map 8 k ++ drop 8 d
unfolding new_map
first_word d k v B h e =
    rw e
    (sym (set_in d 0 (bits_of (λ i. ltb i k) 64) (omega arith)) ∙ set_word-map d B 0 (omega arith) (λ i. ltb i k)
    ∙ splice-first d (map_bytes (λ i. ltb i k) 8) (length-map_bytes (λ i. ltb i k) 8))

-- the bytes after the first word are as they were
pub first-written : (d m : List ℕ) (k v : ℕ) → Bytes d → 8 ≤ length d → v ≡ bits_of (λ i. ltb i k) 64 → m ≡ with_word d 0 v → m ≡ new_map 8 k ++ drop 8 m
first-written d m k v B h e q =
    let z : m ≡ new_map 8 k ++ drop 8 d = q ∙ first_word d k v B h e in
    z ∙ ap (λ (x : List ℕ). new_map 8 k ++ x) (sym (ap (drop 8) z ∙ drop_at (new_map 8 k) (drop 8 d) 8 (length-new_map 8 k)))

-- past it every byte is 0
pub more_zero : (d m : List ℕ) (k j : ℕ) → k ≤ 63 → 8 ≤ j → j < length d → m ≡ new_map j k ++ drop j d → set m j 0 ≡ new_map (j + 1) k ++ drop (j + 1) d
unfolding bits_of
more_zero d m k j a b h e = ap (λ (x : List ℕ). set x j 0) e ∙ new_more d k j 0 0 h (omega arith) refl
