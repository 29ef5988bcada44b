-- Rules 1 to 6 (SPEC 3.1 to 3.6) in plain form: rule 1 on the bytes s, the others on the fields v of n pages.
-- `Bytes.antt` and `Rules.antt` have them as tests; `Judged.antt` says that both are the same.
use Rattle.std.specs.Prelude.{◌≡◌, Bool, true, false, ◌&&◌, List, ℕ, ◌+◌, ◌-◌, ◌*◌, ◌%◌, ◌^◌, ◌≤◌, ◌<◌, eqb, leb, length}
use Rattle.base.specs.Count.{sum, count}
use Rattle.base.specs.Lists.{Mem, NoDup}
use Rattle.base.specs.Links.{head_or, next_in, prev_from}
use Rattle.records.specs.Layout.{no_page}
use Rattle.records.specs.Header.{header_at}
use Rattle.model.specs.Classes.{chunks, own, counted, max_pages}
use Rattle.rules.specs.Fields.{Fields, kind, class, run, next, prev, map, first}
use Rattle.records.specs.Class.{class_at, peak_at, peak_spare}
use Rattle.rules.specs.Bytes.{pages_in}

-- ---- rule 1: the length gives a P from 1 to the largest; the header's constants and P agree

pub record Rule1 (w : ℕ) (s : List ℕ) : Type 0 where
  pub some : 8 + 72 * w + 4112 ≤ length s
  pub few : pages_in w s ≤ max_pages
  pub edition : (header_at s).edition ≡ w - 1
  pub min_shift : (header_at s).min_shift ≡ 3
  pub page_shift : (header_at s).page_shift ≡ 12
  pub pages : (header_at s).pages ≡ pages_in w s

-- ---- rule 2: the pages divide into free runs, taken runs and class pages; no two free runs touch; the maps' own chunks are marked;
-- fields are as described, but for next and previous in kinds 1 and 2

-- a run begins with page p: its other pages are of kind `inner`, and it ends within the n pages
pub record RunFits (v : Fields) (n inner p : ℕ) : Type 0 where
  pub some-page : 1 ≤ run v p
  pub within : p + run v p ≤ n
  pub each : (j : ℕ) → p < j → j < p + run v p → kind v j ≡ inner

-- page p lies in a run whose first page, another, is of kind `head`
unfoldable pub LiesIn : (v : Fields) (n head p : ℕ) → Type 0
LiesIn v n head p = (q : ℕ) × (q < n) × (kind v q ≡ head) × (q < p) × (p < q + run v q)

-- kinds 0 and 4: inside a run whose first page is of kind `head`
pub record Inside (v : Fields) (n head p : ℕ) : Type 0 where
  pub no-class : class v p ≡ 0
  pub no_run : run v p ≡ 0
  pub no-map : map v p ≡ 0
  pub lies : LiesIn v n head p

-- kinds 1 and 3: first of a run whose other pages are of kind `inner`
pub record First (v : Fields) (n inner p : ℕ) : Type 0 where
  pub no-class : class v p ≡ 0
  pub no-map : map v p ≡ 0
  pub fits : RunFits v n inner p

-- kind 2: class page; its map's own chunks are marked; the map field is 0 where the map lies in the page, else its unused low bits are
pub record ClassPage (v : Fields) (p : ℕ) : Type 0 where
  pub in_range : class v p ≤ 8
  pub no_run : run v p ≡ 0
  pub own-set : (i : ℕ) → i < own (class v p) → v.mark p i ≡ true
  pub map-small : class v p < 3 → map v p ≡ 0
  pub map-large : 3 ≤ class v p → map v p % 2 ^ (64 - chunks (class v p)) ≡ 0

-- kinds, classes, run lengths and maps; no free run touches another
pub record Shape (v : Fields) (n : ℕ) : Type 0 where
  pub kinds : (p : ℕ) → p < n → kind v p ≤ 4
  pub kind0 : (p : ℕ) → p < n → kind v p ≡ 0 → Inside v n 1 p
  pub kind1 : (p : ℕ) → p < n → kind v p ≡ 1 → First v n 0 p
  pub apart : (p : ℕ) → p < n → kind v p ≡ 1 → p + run v p < n → 1 < kind v (p + run v p)
  pub kind2 : (p : ℕ) → p < n → kind v p ≡ 2 → ClassPage v p
  pub kind3 : (p : ℕ) → p < n → kind v p ≡ 3 → First v n 4 p
  pub kind4 : (p : ℕ) → p < n → kind v p ≡ 4 → Inside v n 3 p

-- zero bits, next and previous: inside a free run only its last page has a previous, the first, and pages of taken runs have no links
pub record LinksHold (v : Fields) (n : ℕ) : Type 0 where
  pub spare : (p : ℕ) → p < n → v.spare p ≡ 0
  pub inside-next : (p : ℕ) → p < n → kind v p ≡ 0 → next v p ≡ no_page
  pub inside-prev : (p : ℕ) → p < n → kind v p ≡ 0 → p + 1 < n → kind v (p + 1) ≡ 0 → prev v p ≡ no_page
  pub back : (p : ℕ) → p < n → kind v p ≡ 1 → 1 < run v p → prev v (p + run v p - 1) ≡ p
  pub taken : (p : ℕ) → p < n → 2 < kind v p → (next v p ≡ no_page) × (prev v p ≡ no_page)

pub record Rule2 (v : Fields) (n : ℕ) : Type 0 where
  pub shape : Shape v n
  pub links : LinksHold v n

-- ---- rules 3 and 4: a list holds each page that belongs on it once and ends; previous leads back

-- the list L holds each page with the property Good once; it is entered at h, next leads along it to no page, previous leads back
pub record Lists (Good : ℕ → Type 0) (nx pv : ℕ → ℕ) (h : ℕ) (L : List ℕ) : Type 0 where
  pub once : NoDup L
  pub holds : (p : ℕ) → Mem p L → Good p
  pub all : (p : ℕ) → Good p → Mem p L
  pub entry : h ≡ head_or no_page L
  pub nexts : (p : ℕ) → Mem p L → nx p ≡ next_in no_page p L
  pub prevs : (p : ℕ) → Mem p L → pv p ≡ prev_from no_page no_page p L

-- first page of a free run
unfoldable pub Head : (v : Fields) (n p : ℕ) → Type 0
Head v n p = (p < n) × (kind v p ≡ 1)

-- class page of class c with a free chunk
unfoldable pub Open : (v : Fields) (n c p : ℕ) → Type 0
Open v n c p = (p < n) × (kind v p ≡ 2) × (class v p ≡ c) × (i : ℕ) × (i < chunks c) × (v.mark p i ≡ false)

-- from the header: each free run
unfoldable pub Rule3 : (v : Fields) (n : ℕ) → Type 0
Rule3 v n = (L : List ℕ) × Lists (Head v n) (next v) (prev v) v.image.first_run L

-- from each class record: each page of that class with a free chunk; a full page is on no list and has no links
pub record Rule4 (v : Fields) (n : ℕ) : Type 0 where
  pub lists : (c : ℕ) → c < 9 → (L : List ℕ) × Lists (Open v n c) (next v) (prev v) (first v c) L
  pub full : (p : ℕ) → p < n → kind v p ≡ 2 → ¬ Open v n (class v p) p → (next v p ≡ no_page) × (prev v p ≡ no_page)

-- ---- rule 5: each class page has at least one chunk in a caller's hands

unfoldable pub Rule5 : (v : Fields) (n : ℕ) → Type 0
Rule5 v n = (p : ℕ) → p < n → kind v p ≡ 2 → (i : ℕ) × (own (class v p) ≤ i) × (i < chunks (class v p)) × (v.mark p i ≡ true)

-- ---- rule 6: free pages are counted, each class's used is its marked chunks other than the maps' own, and total is its pages times the
-- chunks that count

-- page p is of class c
unfoldable pub of_class : (v : Fields) (c p : ℕ) → Bool
of_class v c p = eqb (kind v p) 2 && eqb (class v p) c

pub record Rule6 (v : Fields) (n : ℕ) : Type 0 where
  pub free_pages : v.image.free_pages ≡ count (λ p. leb (kind v p) 1) n
  pub used : (c : ℕ) → c < 9 → (v.image.class c).used ≡ sum (λ p. count (λ i. leb (own c) i && (of_class v c p && v.mark p i)) (chunks c)) n
  pub total : (c : ℕ) → c < 9 → (v.image.class c).total ≡ count (of_class v c) n * counted c

-- where class records have a third word: each peak is at least used, and the bits after it are 0
pub record Peaks (w : ℕ) (s : List ℕ) : Type 0 where
  pub high : 2 < w → (c : ℕ) → c < 9 → (class_at w s c).used ≤ peak_at w s c
  pub spare : 2 < w → (c : ℕ) → c < 9 → peak_spare w s c ≡ 0
