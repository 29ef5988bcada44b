-- How full a class page is, by the words of its map. A map is named by the number k of its first word.
use Rattle.std.specs.Prelude.{ℕ, ◌+◌, ◌*◌, ◌/◌, ◌%◌, Bool, true, false, List, eqb, ltb}
use Rattle.base.specs.Functions.{upd}
use Rattle.base.specs.Tests.{pick, all_below}
use Rattle.words.specs.Word.{word}
use Rattle.maps.specs.Bitmap.{bits_of}
use Rattle.model.specs.Classes.{chunks, own}
use Rattle.map_count.specs.Mirror.{map_bits}

-- the m words from k on are those of the marks e
unfoldable pub marks_are : (s : List ℕ) (k m : ℕ) (e : (ℕ → Bool)) → Bool
marks_are s k m e = all_below (λ j. eqb (word s (k + j)) (bits_of (λ b. e (64 * j + b)) 64)) m

-- the marks of a full page of class c
unfoldable pub full_marks : (c b : ℕ) → Bool
full_marks c b = ltb b (chunks c)

-- the map's own
unfoldable pub own_marks : (c b : ℕ) → Bool
own_marks c b = ltb b (own c)

-- the bit of chunk i in the map: a map in a record is one word
unfoldable pub bit_for : (c i : ℕ) → ℕ
bit_for c i = pick (ltb c 3) i (i % 64)

unfoldable pub is_full : (s : List ℕ) (k c : ℕ) → Bool
is_full s k c = marks_are s k (map_bits c / 64) (full_marks c)

-- chunk i alone is free; the word that has its bit is looked at first
unfoldable pub last_free : (s : List ℕ) (k c i : ℕ) → Bool
last_free s k c i =
    pick (eqb (word s (k + bit_for c i / 64)) (bits_of (upd (full_marks c) (i % 64) false) 64))
    (marks_are s k (map_bits c / 64) (upd (full_marks c) (bit_for c i) false)) false

-- chunk i alone is in a caller's hands; likewise
unfoldable pub last_taken : (s : List ℕ) (k c i : ℕ) → Bool
last_taken s k c i =
    pick (eqb (word s (k + bit_for c i / 64)) (bits_of (λ b. upd (own_marks c) (bit_for c i) true (64 * (bit_for c i / 64) + b)) 64))
    (marks_are s k (map_bits c / 64) (upd (own_marks c) (bit_for c i) true)) false

-- ---- as the code compares

-- word j of a map that has `odd` as word `at`, and else begins with `first` and goes on with `rest`
unfoldable pub expected : (first rest at odd j : ℕ) → ℕ
expected first rest at odd j = pick (eqb j at) odd (pick (eqb j 0) first rest)

unfoldable pub words_are : (s : List ℕ) (k m first rest at odd : ℕ) → Bool
words_are s k m first rest at odd = all_below (λ j. eqb (word s (k + j)) (expected first rest at odd j)) m

-- the same, word `at` first
unfoldable pub words_from : (s : List ℕ) (k m first rest at odd : ℕ) → Bool
words_from s k m first rest at odd = pick (eqb (word s (k + at)) odd) (words_are s k m first rest at odd) false
