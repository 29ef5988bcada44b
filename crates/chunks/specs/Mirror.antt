-- The operations on the chunks of class pages, in the bytes of a pool of P pages.
-- Each changes the lists first; a chunk is counted then, and its mark is written last. w is the number of words of a class record.
use Rattle.std.specs.Prelude.{ℕ, ◌+◌, ◌*◌, ◌/◌, ◌%◌, Bool, true, false, not, List, eqb}
use Rattle.base.specs.Tests.{pick}
use Rattle.records.specs.Layout.{no_page}
use Rattle.records.specs.declared.Links.{Links}
use Rattle.records.specs.Class.{class_at}
use Rattle.records.specs.Page.{links_at, with_links}
use Rattle.model.specs.Classes.{own}
use Rattle.maps.specs.Bitmap.{with_mark}
use Rattle.maps.specs.Mirror.{with_new_map}
use Rattle.lists.specs.Mirror.{between, with_prev, unlinked, pushed}
use Rattle.rules.specs.Drawn.{links}
use Rattle.rules.specs.Bytes.{map_base}
use Rattle.run_extents.specs.Mirror.{front_page}
use Rattle.run_neighbours.specs.Mirror.{pages_released}
use Rattle.map_count.specs.Mirror.{map_bits}
use Rattle.map_occupancy.specs.Mirror.{bit_for, last_free, last_taken}
use Rattle.classes.specs.Mirror.{map_word, count_used, count_used_first, count_page_used, count_back, count_back_first, count_page_back}

-- ---- class lists

-- the number of the list of class c: the sum wraps, in the code and here alike, and for no class does
abbrev pub list_of : ℕ → ℕ
list_of c = (1 + c) % 256

-- a class page that is on no list
abbrev pub class_links : ℕ → Links
class_links c = links 2 c 0 no_page no_page

-- page p leaves the list of class c
unfoldable pub delisted : (w : ℕ) (s : List ℕ) (c p : ℕ) → List ℕ
delisted w s c p = unlinked w s (list_of c) (links_at w s p)

-- page p comes in front of the list of class c
unfoldable pub enlisted : (w : ℕ) (s : List ℕ) (c p : ℕ) → List ℕ
enlisted w s c p = pushed w s (list_of c) p (class_links c)

-- The same in the page records alone, where the class's first page changes as its chunks are counted.

-- page p, the first of its list, leaves it
unfoldable pub set_aside : (w : ℕ) (s : List ℕ) (c p : ℕ) → List ℕ
set_aside w s c p = with_prev w (with_links w s p (class_links c)) (links_at w s p).next.0 no_page

-- page p comes in front of h, the first of the list
unfoldable pub set_before : (w : ℕ) (s : List ℕ) (c p h : ℕ) → List ℕ
set_before w s c p h = with_prev w (with_links w s p (between (class_links c) no_page h)) h p

-- page p is on no list: there is none before it, and it is not the first
unfoldable pub off_list : (w : ℕ) (s : List ℕ) (c p : ℕ) → Bool
off_list w s c p = pick (eqb (links_at w s p).prev.0 no_page) (not (eqb (class_at w s c).first.0 p)) false

-- ---- the operations

-- a chunk of page p, the first on the list of class c, is counted; with its last free chunk the page leaves the list
unfoldable pub taken_counted : (w : ℕ) (s : List ℕ) (c p : ℕ) (last : Bool) → List ℕ
taken_counted w s c p last = pick last (count_used_first w (set_aside w s c p) c (links_at w s p).next.0) (count_used w s c)

-- a chunk of page p comes back and is counted; a page on no list, which was full, returns to the head of the list
unfoldable pub back_counted : (w : ℕ) (s : List ℕ) (c p : ℕ) → List ℕ
back_counted w s c p =
    pick (off_list w s c p) (count_back_first w (set_before w s c p (class_at w s c).first.0) c p) (count_back w s c)

-- chunk i of page p, the first on the list of class c, whose map begins with word k, is handed out
unfoldable pub taken_at : (w : ℕ) (s : List ℕ) (c p k i : ℕ) → List ℕ
taken_at w s c p k i = with_mark (taken_counted w s c p (last_free s k c i)) (8 * k) (bit_for c i) true

unfoldable pub chunk_taken : (w : ℕ) (s : List ℕ) (P c p i : ℕ) → List ℕ
chunk_taken w s P c p i = taken_at w s c p (map_word w P p c) i

-- the whole map of page p, which is new: the map's own chunks and the first after them are taken
unfoldable pub new_map_at : (w : ℕ) (s : List ℕ) (P c p : ℕ) → List ℕ
new_map_at w s P c p = with_new_map s (map_base w P p c) (map_bits c / 8) (own c + 1)

-- the first page of the free run that starts in page p becomes the only page on the list of class c, and its first chunk is handed out
unfoldable pub page_cut : (w : ℕ) (s : List ℕ) (P c p : ℕ) → List ℕ
page_cut w s P c p = count_page_used w (new_map_at w (enlisted w (front_page w s p) c p) P c p) c

-- chunk i of page p, whose map begins with word k, comes back and others stay taken
unfoldable pub kept_at : (w : ℕ) (s : List ℕ) (c p k i : ℕ) → List ℕ
kept_at w s c p k i = with_mark (back_counted w s c p) (8 * k) (bit_for c i) false

-- the last chunk i of page p comes back: the page leaves the list and is released
unfoldable pub page_dropped : (w : ℕ) (s : List ℕ) (P c p k i : ℕ) → List ℕ
page_dropped w s P c p k i = count_page_back w (with_mark (pages_released w (delisted w s c p) P p 1) (8 * k) (bit_for c i) false) c

-- chunk i of page p comes back
unfoldable pub freed_at : (w : ℕ) (s : List ℕ) (P c p k i : ℕ) → List ℕ
freed_at w s P c p k i = pick (last_taken s k c i) (page_dropped w s P c p k i) (kept_at w s c p k i)

unfoldable pub chunk_freed : (w : ℕ) (s : List ℕ) (P c p i : ℕ) → List ℕ
chunk_freed w s P c p i = freed_at w s P c p (map_word w P p c) i
