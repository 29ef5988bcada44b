-- A page record in two words: the chunk map, and the rest, here called its links.
use Rattle.std.specs.Prelude.{ℕ, ◌+◌, ◌*◌, ◌/◌, ◌%◌, List}
use Rattle.words.specs.Word.{word, set_word}
use Rattle.records.specs.Layout.{links_place}
use Rattle.records.specs.declared.Links.{Links}

-- kind 3 bits, class 4, run length 16, next 16, previous 16, nine zero bits
unfoldable pub pack_links : Links → ℕ
pack_links l =
    l.kind % 8 * 2305843009213693952 + l.class % 16 * 144115188075855872 + l.run * 2199023255552
    + l.next.0 * 33554432 + l.prev.0 * 512

unfoldable pub unpack_links : ℕ → Links
unpack_links v =
    record {
      kind = v / 2305843009213693952 % 8;
      class = v / 144115188075855872 % 16;
      run = v / 2199023255552 % 65536;
      next = record { 0 = v / 33554432 % 65536 };
      prev = record { 0 = v / 512 % 65536 };
    }

-- the links of page p
unfoldable pub links_at : (w : ℕ) (s : List ℕ) (p : ℕ) → Links
links_at w s p = unpack_links (word s (links_place w p))

unfoldable pub with_links : (w : ℕ) (s : List ℕ) (p : ℕ) (l : Links) → List ℕ
with_links w s p l = set_word s (links_place w p) (pack_links l)
