-- The header in one word.
use Rattle.std.specs.Prelude.{ℕ, ◌+◌, ◌*◌, ◌/◌, ◌%◌, List}
use Rattle.words.specs.Word.{word, set_word}
use Rattle.records.specs.declared.Header.{Header}

-- edition 8 bits, smallest shift 4, page shift 4, page count 16, free pages 16, first free run 16
unfoldable pub pack_header : Header → ℕ
pack_header h =
    h.edition * 72057594037927936 + h.min_shift % 16 * 4503599627370496 + h.page_shift % 16 * 281474976710656
    + h.pages * 4294967296 + h.free_pages * 65536 + h.first_run.0

unfoldable pub unpack_header : ℕ → Header
unpack_header v =
    record {
      edition = v / 72057594037927936 % 256;
      min_shift = v / 4503599627370496 % 16;
      page_shift = v / 281474976710656 % 16;
      pages = v / 4294967296 % 65536;
      free_pages = v / 65536 % 65536;
      first_run = record { 0 = v % 65536 };
    }

unfoldable pub header_at : List ℕ → Header
header_at s = unpack_header (word s 0)

unfoldable pub with_header : (s : List ℕ) (h : Header) → List ℕ
with_header s h = set_word s 0 (pack_header h)
