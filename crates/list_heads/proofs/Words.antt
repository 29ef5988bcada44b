-- Another first page changes one field of the word of counts, and no other word.
use mathlib.Core.Path.{◌≡◌, refl}
use mathlib.Core.List.{List}
use Prim.Native.Nat.{ℕ, ◌+◌, ◌*◌, ◌%◌, ◌<◌}
use native.Mathlib.Omega.{arith}
use Rattle.words.specs.Word.{Bytes, word, set_word}
use Rattle.records.specs.Layout.{counts_place}
use Rattle.records.specs.Class.{pack_counts, pack_tally, unpack_class}
use Rattle.records.specs.Mirror.{first_to}
use Rattle.records.proofs.Counts.{counts-put}
use Rattle.lists.specs.Mirror.{with_first_page}

pub first_word : (v p : ℕ) → p * 281474976710656 + v % 281474976710656 ≡ pack_counts (first_to (unpack_class v 0) p)
unfolding pack_counts unpack_class
first_word v p = omega arith

-- the other word does not matter
counts-first : (a b p : ℕ) → pack_counts (first_to (unpack_class a 0) p) ≡ pack_counts (first_to (unpack_class a b) p)
unfolding pack_counts unpack_class
counts-first a b p = refl

tally-first : (a b p : ℕ) → b < 18446744073709551616 → b ≡ pack_tally (first_to (unpack_class a b) p)
unfolding pack_tally unpack_class
tally-first a b p h = omega arith

counts-small : (a p : ℕ) → p < 65536 → pack_counts (first_to (unpack_class a 0) p) < 18446744073709551616
unfolding pack_counts unpack_class
counts-small a p h = omega arith

pub first-put : (w : ℕ) (s : List ℕ) → Bytes s → (c k p : ℕ) → k ≡ counts_place w c → p < 65536 → (s' : List ℕ)
    → s' ≡ set_word s k (pack_counts (first_to (unpack_class (word s k) 0) p)) → s' ≡ with_first_page w s c p
unfolding with_first_page
first-put w s B c k p place few = counts-put (λ r. first_to r p) (λ a b. counts-first a b p) (λ a b h. tally-first a b p h) (λ a h. counts-small a p few) w s B c k place
