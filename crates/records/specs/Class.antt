-- A class record: two words, and where it has a third the peak in it.
use Rattle.std.specs.Prelude.{ℕ, ◌+◌, ◌*◌, ◌/◌, ◌%◌, List}
use Rattle.words.specs.Word.{word, set_word}
use Rattle.records.specs.Layout.{no_page, counts_place, tally_place, peak_place}
use Rattle.records.specs.declared.ClassRecord.{ClassRecord}

-- ---- by value

-- no first page, all counts 0
abbrev pub empty_class : ClassRecord
empty_class = record { first = record { 0 = no_page }; used = 0; total = 0; reqs = 0; fails = 0 }

-- ---- in its words

-- first page 16 bits, used 24, total 24
unfoldable pub pack_counts : ClassRecord → ℕ
pack_counts r = r.first.0 * 281474976710656 + r.used % 16777216 * 16777216 + r.total % 16777216

-- asks 32 bits, failures 32
unfoldable pub pack_tally : ClassRecord → ℕ
pack_tally r = r.reqs * 4294967296 + r.fails

unfoldable pub unpack_class : (counts tally : ℕ) → ClassRecord
unpack_class counts tally =
    record {
      first = record { 0 = counts / 281474976710656 % 65536 };
      used = counts / 16777216 % 16777216;
      total = counts % 16777216;
      reqs = tally / 4294967296 % 4294967296;
      fails = tally % 4294967296;
    }

-- the record of class c
unfoldable pub class_at : (w : ℕ) (s : List ℕ) (c : ℕ) → ClassRecord
class_at w s c = unpack_class (word s (counts_place w c)) (word s (tally_place w c))

unfoldable pub with_class : (w : ℕ) (s : List ℕ) (c : ℕ) (r : ClassRecord) → List ℕ
with_class w s c r = set_word (set_word s (counts_place w c) (pack_counts r)) (tally_place w c) (pack_tally r)

-- ---- its third word: peak 24 bits, 40 zero bits

unfoldable pub pack_peak : ℕ → ℕ
pack_peak n = n % 16777216 * 1099511627776

-- the peak of class c
unfoldable pub peak_at : (w : ℕ) (s : List ℕ) (c : ℕ) → ℕ
peak_at w s c = word s (peak_place w c) / 1099511627776 % 16777216

-- the bits that are to be 0
unfoldable pub peak_spare : (w : ℕ) (s : List ℕ) (c : ℕ) → ℕ
peak_spare w s c = word s (peak_place w c) % 1099511627776

unfoldable pub with_peak : (w : ℕ) (s : List ℕ) (c n : ℕ) → List ℕ
with_peak w s c n = set_word s (peak_place w c) (pack_peak n)
