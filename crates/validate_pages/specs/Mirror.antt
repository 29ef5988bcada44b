-- What one pass over the pages counts, in eleven counters: nine for the classes, one for free pages, one for faults.
-- A counter holds up to three counts side by side, so that a page of a class is one addition: from bit 0, from bit 32 and from bit 48 on.
use Rattle.std.specs.Prelude.{◌≡◌, ℕ, zero, suc, ◌+◌, ◌-◌, ◌*◌, ◌%◌, ◌^◌, ◌<◌, ◌≤◌, Bool, true, false, not, List, length, ◌==◌, nat_le, nat_lt, slice_index, slice_set}
use Rattle.base.specs.Tests.{pick}
use Rattle.base.specs.Count.{bit, sum, count}
use Rattle.records.specs.Layout.{no_page}
use Rattle.records.specs.declared.Links.{Links}
use Rattle.maps.specs.Bitmap.{mark}
use Rattle.model.specs.Classes.{chunks, own}
use Rattle.model.specs.State.{is_idle}
use Rattle.model.specs.View.{kind_of, is_class, used_on}
use Rattle.map_count.specs.Mirror.{map_bits}
use Rattle.rules.specs.Fields.{Fields, page_at}
use Rattle.rules.specs.Read.{is_head, open_at}
use Rattle.rules.specs.Rules.{rule2_at, rule2, in_use, full_alone}
use Rattle.rules.specs.Bytes.{pages_in, map_base, fields_of}
use Rattle.validate_runs.specs.Mirror.{Border}

-- ---- what a page adds, in the words of the rules

-- to the counter of class c: chunks in callers' hands, pages, pages with a clear mark
unfoldable pub class_share : (v : Fields) (n c p : ℕ) → ℕ
class_share v n c p =
    used_on c (page_at v n p) + 4294967296 * bit (is_class c (kind_of (page_at v n p))) + 281474976710656 * bit (open_at v n c p)

-- free pages, first pages of free runs
unfoldable pub free_share : (v : Fields) (n p : ℕ) → ℕ
free_share v n p = bit (is_idle (page_at v n p)) + 4294967296 * bit (is_head v n p)

-- pages with no chunk in a caller's hands (rule 5), full pages with links (rule 4)
unfoldable pub fault_share : (v : Fields) (n p : ℕ) → ℕ
fault_share v n p = bit (not (in_use (page_at v n p))) + 4294967296 * bit (not (full_alone v n p))

unfoldable pub share : (v : Fields) (n j p : ℕ) → ℕ
share v n j p = pick (nat_lt j 9) (class_share v n j p) (pick (j == 9) (free_share v n p) (fault_share v n p))

-- the counters after the first k pages
abbrev pub Counted : (v : Fields) (n k : ℕ) (t : List ℕ) → Type 0
Counted v n k t = (j : ℕ) → j < 11 → slice_index t j ≡ sum (share v n j) k

-- page p of n, with the links l and its nine low bits 0
pub record Here (w : ℕ) (s : List ℕ) (n p : ℕ) (l : Links) : Type 0 where
  pub pages : n ≡ pages_in w s
  pub few : n ≤ 4096
  pub below : p < n
  pub is : l ≡ (fields_of w s).image.links p
  pub plain : (fields_of w s).spare p ≡ 0

-- the code went on from page p to page r: the pages between keep rule 2, and the counters t of the pages before p became those of the pages before r
pub record Steps (v : Fields) (n p r : ℕ) (t t' : List ℕ) : Type 0 where
  pub low : p ≤ r
  pub high : r ≤ n
  pub stops : r ≡ p → rule2 v n ≡ false
  pub keeps : (j : ℕ) → p ≤ j → j < r → rule2_at v n j ≡ true
  pub border : p < r → r < n → Border v n r
  pub counts : p < r → length t ≡ 11 → Counted v n p t → (length t' ≡ 11) × Counted v n r t'

-- ---- what the code adds

-- the set marks of page p, which has class c
unfoldable pub ones_at : (w : ℕ) (s : List ℕ) (p c : ℕ) → ℕ
ones_at w s p c = count (mark s (map_base w (pages_in w s) p c)) (map_bits c)

unfoldable pub class_weight : (c ones : ℕ) → ℕ
class_weight c ones = ones - own c + 4294967296 + 281474976710656 * bit (nat_lt ones (chunks c))

-- a full page with links
unfoldable pub strays : (c ones next prev : ℕ) → Bool
strays c ones next prev = pick (nat_le (chunks c) ones) (not (pick (next == no_page) (prev == no_page) false)) false

unfoldable pub class_fault : (c ones : ℕ) (l : Links) → ℕ
class_fault c ones l = bit (nat_le ones (own c)) + 4294967296 * bit (strays c ones l.next.0 l.prev.0)

unfoldable pub add_at : (t : List ℕ) (j x : ℕ) → List ℕ
add_at t j x = slice_set t j ((slice_index t j + x) % 2 ^ 64)

unfoldable pub class_added : (t : List ℕ) (c ones : ℕ) (l : Links) → List ℕ
class_added t c ones l = add_at (add_at t c (class_weight c ones)) 10 (class_fault c ones l)

abbrev pub kind_added : ℕ → List ℕ → List ℕ → List ℕ → List ℕ → List ℕ
kind_added zero t a b c = a
kind_added (suc zero) t a b c = b
kind_added (suc (suc zero)) t a b c = c
kind_added (suc (suc (suc k))) t a b c = t

unfoldable pub page_added : (w : ℕ) (s t : List ℕ) (p : ℕ) (l : Links) → List ℕ
page_added w s t p l =
    kind_added l.kind t (add_at t 9 1) (add_at t 9 4294967297) (class_added t l.class (ones_at w s p l.class) l)
