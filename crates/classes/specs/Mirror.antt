-- The map of a class page and the record of a class, in the bytes of a pool of P pages.
-- w is the number of words of a class record.
use Rattle.std.specs.Prelude.{ℕ, ◌+◌, ◌-◌, ◌*◌, ◌/◌, ◌%◌, ◌^◌, ◌≤◌, List, ltb, length}
use Rattle.base.specs.Tests.{pick}
use Rattle.records.specs.Layout.{map_place}
use Rattle.records.specs.declared.ClassRecord.{ClassRecord}
use Rattle.records.specs.Class.{class_at, with_class}
use Rattle.records.specs.Mirror.{first_to, used_to, total_to, reqs_to, fails_to}
use Rattle.model.specs.Classes.{own, counted}
use Rattle.model.specs.Calls.{raise}

-- ---- what a caller on validated records knows

-- the slice has every word of the records and of the P pages
abbrev pub Whole : (w : ℕ) (s : List ℕ) (P : ℕ) → Type 0
Whole w s P = (2 ≤ w) × (1 + 9 * w + 514 * P ≤ length s / 8)

-- ---- the map of a page

-- the word that the map of page p, of class c, begins with
unfoldable pub map_word : (w P p c : ℕ) → ℕ
map_word w P p c = pick (ltb c 3) (1 + 9 * w + 2 * P + 512 * p) (map_place w p)

-- the least first word of a map in which the map's own chunks are marked: they have its top bits
unfoldable pub own_word : ℕ → ℕ
own_word c = (2 ^ own c - 1) * 2 ^ (64 - own c)

-- ---- changes of a class record; its counts have 24 bits, so that no sum is too large

-- a chunk is asked for
abbrev pub chunk_asked : ClassRecord → ClassRecord
chunk_asked r = reqs_to r (raise r.reqs)

-- and handed out, as the word of counts is added to: a carry, which sound records never have, goes on into the first page
abbrev pub chunk_carried : ClassRecord → ClassRecord
chunk_carried r =
    record {
      first = record { 0 = (r.first.0 + (r.used + 1) / 16777216) % 65536 };
      used = r.used + 1;
      total = r.total;
      reqs = raise r.reqs;
      fails = r.fails;
    }

-- of a new page: a carry of total goes on into used
abbrev pub page_used : (c : ℕ) (r : ClassRecord) → ClassRecord
page_used c r =
    record {
      first = record { 0 = (r.first.0 + (r.used + 1 + (r.total + counted c) / 16777216) / 16777216) % 65536 };
      used = r.used + 1 + (r.total + counted c) / 16777216;
      total = r.total + counted c;
      reqs = raise r.reqs;
      fails = r.fails;
    }

-- or could not be handed out
abbrev pub none_used : ClassRecord → ClassRecord
none_used r = fails_to (chunk_asked r) (raise r.fails)

-- a chunk comes back
abbrev pub chunk_back : ClassRecord → ClassRecord
chunk_back r = used_to r (r.used - 1)

-- as the word of counts is subtracted from: a borrow likewise
abbrev pub chunk_borrowed : ClassRecord → ClassRecord
chunk_borrowed r =
    record {
      first = record { 0 = (r.first.0 + 65535 + (r.used + 16777215) / 16777216) % 65536 };
      used = (r.used + 16777215) % 16777216;
      total = r.total;
      reqs = r.reqs;
      fails = r.fails;
    }

-- and with it its page
abbrev pub page_back : (c : ℕ) (r : ClassRecord) → ClassRecord
page_back c r = total_to (chunk_back r) (r.total - counted c)

unfoldable pub count_used : (w : ℕ) (s : List ℕ) (c : ℕ) → List ℕ
count_used w s c = with_class w s c (chunk_carried (class_at w s c))

-- the same where page p becomes the class's first, which stands in the word of counts too
unfoldable pub count_used_first : (w : ℕ) (s : List ℕ) (c p : ℕ) → List ℕ
count_used_first w s c p = with_class w s c (chunk_carried (first_to (class_at w s c) p))

unfoldable pub count_page_used : (w : ℕ) (s : List ℕ) (c : ℕ) → List ℕ
count_page_used w s c = with_class w s c (page_used c (class_at w s c))

unfoldable pub count_back : (w : ℕ) (s : List ℕ) (c : ℕ) → List ℕ
count_back w s c = with_class w s c (chunk_borrowed (class_at w s c))

unfoldable pub count_back_first : (w : ℕ) (s : List ℕ) (c p : ℕ) → List ℕ
count_back_first w s c p = with_class w s c (chunk_borrowed (first_to (class_at w s c) p))

unfoldable pub count_page_back : (w : ℕ) (s : List ℕ) (c : ℕ) → List ℕ
count_page_back w s c = with_class w s c (page_back c (class_at w s c))

-- a chunk of class c was asked for and there is none
unfoldable pub chunk_refused : (w : ℕ) (s : List ℕ) (c : ℕ) → List ℕ
chunk_refused w s c = with_class w s c (none_used (class_at w s c))
