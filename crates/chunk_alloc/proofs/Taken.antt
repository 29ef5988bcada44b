-- A chunk handed out: the words that are read and written lie in the slice; by whether it is the last free one of its page, and by where
-- its map lies.
use mathlib.Core.Path.{◌≡◌, sym, ap, ◌∙◌}
use mathlib.Core.Bool.{Bool, true, false, not}
use mathlib.Core.List.{List}
use Prim.Native.Nat.{ℕ, zero, suc, ◌+◌, ◌*◌, ◌/◌, ◌%◌, ◌≤◌, ◌<◌}
use native.Mathlib.Omega.{arith}
use lib.ListN.{length}
use borrow.Author.Tests.{le-ltb}
use Rattle.base.specs.Tests.{pick}
use Rattle.base.proofs.AllBelow.{pick_yes, pick_no}
use Rattle.base.proofs.Search.{least_spec}
use Rattle.records.specs.Layout.{tally_place}
use Rattle.records.specs.Page.{links_at}
use Rattle.maps.specs.Bitmap.{mark, with_mark}
use Rattle.maps.specs.Mirror.{lowest_clear}
use Rattle.rules.specs.Bytes.{map_base}
use Rattle.map_count.specs.Mirror.{map_bits}
use Rattle.map_occupancy.specs.Mirror.{bit_for, last_free}
use Rattle.map_occupancy.proofs.Words.{bits_most, whole_words, words_paged}
use Rattle.map_places.proofs.Places.{base_word}
use Rattle.classes.specs.Mirror.{Whole, map_word, count_used, count_used_first}
use Rattle.classes.proofs.Numbers.{tally-whole, map_whole}
use Rattle.chunks.specs.Mirror.{set_aside, taken_counted, taken_at, chunk_taken}
use Rattle.chunks.proofs.Marks.{paged_marked, recorded_marked}

module _ (w : ℕ) (s : List ℕ) (c p k i : ℕ) (out : List ℕ) (r : Bool) (told : r ≡ last_free s k c i) where
  -- what the last free chunk leaves but for its mark
  abbrev last : List ℕ
  last = count_used_first w (set_aside w s c p) c (links_at w s p).next.0

  leaves : r ≡ true → taken_counted w s c p (last_free s k c i) ≡ last
  unfolding taken_counted
  leaves t = pick_yes _ _ _ (sym told ∙ t)

  stays : r ≡ false → taken_counted w s c p (last_free s k c i) ≡ count_used w s c
  unfolding taken_counted
  stays t = pick_no _ _ _ (sym told ∙ t)

  -- t has lists and counts as they are to be
  at : (t : List ℕ) → taken_counted w s c p (last_free s k c i) ≡ t → out ≡ with_mark t (8 * k) (bit_for c i) true → out ≡ taken_at w s c p k i
  unfolding taken_at
  at t e q = q ∙ ap (λ (x : List ℕ). with_mark x (8 * k) (bit_for c i) true) (sym e)

  module _ (small : c < 3) where
    pub last_paged : r ≡ true → out ≡ with_mark last (8 * (k + i / 64)) (i % 64) true → out ≡ taken_at w s c p k i
    last_paged t q = at last (leaves t) (q ∙ paged_marked last k c i small true)

    pub more_paged : r ≡ false → out ≡ with_mark (count_used w s c) (8 * (k + i / 64)) (i % 64) true → out ≡ taken_at w s c p k i
    more_paged t q = at (count_used w s c) (stays t) (q ∙ paged_marked (count_used w s c) k c i small true)

  module _ (large : 3 ≤ c) where
    pub last_recorded : r ≡ true → out ≡ with_mark last (8 * k) (i % 64) true → out ≡ taken_at w s c p k i
    last_recorded t q = at last (leaves t) (q ∙ recorded_marked last k c i large true)

    pub more_recorded : r ≡ false → out ≡ with_mark (count_used w s c) (8 * k) (i % 64) true → out ≡ taken_at w s c p k i
    more_recorded t q = at (count_used w s c) (stays t) (q ∙ recorded_marked (count_used w s c) k c i large true)

-- ---- a map in the page has words

pub some_words : (c m : ℕ) → c < 3 → m ≡ map_bits c / 64 → 1 ≤ m
some_words zero m h e = let z : ◌≡◌ {A = ℕ} 8 (map_bits 0 / 64) = words_paged 0 h in omega arith
some_words (suc zero) m h e = let z : ◌≡◌ {A = ℕ} 4 (map_bits 1 / 64) = words_paged 1 h in omega arith
some_words (suc (suc zero)) m h e = let z : ◌≡◌ {A = ℕ} 2 (map_bits 2 / 64) = words_paged 2 h in omega arith
some_words (suc (suc (suc c))) m h e = absurd (omega arith)

-- ---- the map of page p begins with word k

module _ (w : ℕ) (s : List ℕ) (P c p k : ℕ) (place : k ≡ map_word w P p c) where
  module _ (whole : Whole w s P) where
    pub tally_in_lem : c ≤ 8 → tally_place w c < length s / 8
    tally_in_lem h = tally-whole w P (length s / 8) whole.0 whole.1 c h

    eight_in : p < P → k + 8 < length s / 8
    eight_in h = rw place (map_whole w P (length s / 8) whole.0 whole.1 p h c)

    pub map_in : p < P → k < length s / 8
    map_in h = omega (arith, eight_in h)

    -- the word of the mark that was found
    pub mark_in : p < P → (m i : ℕ) → m ≡ map_bits c / 64 → i ≡ lowest_clear s (8 * k) (64 * m) → k + i / 64 < length s / 8
    unfolding lowest_clear
    mark_in h m i d e = omega (arith, eight_in h, bits_most c, (least_spec (λ j. not (mark s (8 * k) j)) (64 * m)).at_most)

  pub paged_lowest : (m i : ℕ) → m ≡ map_bits c / 64 → i ≡ lowest_clear s (8 * k) (64 * m) → i ≡ lowest_clear s (map_base w P p c) (map_bits c)
  paged_lowest m i d e = e ∙ rw (place, d, whole_words c, base_word w P p c)

  pub recorded_lowest : (i : ℕ) → 3 ≤ c → i ≡ lowest_clear s (8 * k) 64 → i ≡ lowest_clear s (map_base w P p c) (map_bits c)
  recorded_lowest i h e = e ∙ rw (place, base_word w P p c) (ap (lowest_clear s (8 * map_word w P p c)) (sym bits))
    where
      bits : map_bits c ≡ 64
      bits = unfold map_bits pick in rw (le-ltb c 3 h)

  pub taken_there : (i : ℕ) (out : List ℕ) → out ≡ taken_at w s c p k i → out ≡ chunk_taken w s P c p i
  unfolding chunk_taken
  taken_there i out q = q ∙ ap (λ (x : ℕ). taken_at w s c p x i) place
