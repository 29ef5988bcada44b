-- Where the records of a pool lie: header, nine class records, page records, pages, tail.
-- w is the number of 64-bit words of a class record: 2 in edition 1, 3 in edition 2.
use Rattle.std.specs.Prelude.{ℕ, ◌+◌, ◌-◌, ◌*◌, ◌/◌}

-- 65535 means no page
abbrev pub no_page : ℕ
no_page = 65535

-- words: the header is word 0, a class record starts with first page and counts, then its tallies;
-- a page record is its chunk map and then its links
abbrev pub counts_place : (w c : ℕ) → ℕ
counts_place w c = 1 + w * c

abbrev pub tally_place : (w c : ℕ) → ℕ
tally_place w c = 2 + w * c

-- the third word, where a class record has one
abbrev pub peak_place : (w c : ℕ) → ℕ
peak_place w c = 3 + w * c

abbrev pub map_place : (w p : ℕ) → ℕ
map_place w p = 1 + 9 * w + 2 * p

abbrev pub links_place : (w p : ℕ) → ℕ
links_place w p = 2 + 9 * w + 2 * p

-- bytes: where the pages begin in a pool of P pages
abbrev pub pages_from : (w P : ℕ) → ℕ
pages_from w P = 8 * (1 + 9 * w + 2 * P)

-- the page count that a length gives: each page has 4,096 bytes and a record of 16
abbrev pub page_count : (w len : ℕ) → ℕ
page_count w len = (len - (8 + 72 * w)) / 4112
