-- The ten lists in the bytes of a pool: list 0 is the list of free runs, list 1 + c the list of class c.
use Rattle.std.specs.Prelude.{ℕ, ◌-◌, List, eqb}
use Rattle.base.specs.Tests.{pick}
use Rattle.records.specs.Layout.{no_page}
use Rattle.records.specs.declared.Links.{Links}
use Rattle.records.specs.Header.{header_at, with_header}
use Rattle.records.specs.Mirror.{first_run_to, first_to}
use Rattle.records.specs.Class.{class_at, with_class}
use Rattle.records.specs.Page.{links_at, with_links}

-- ---- links by value

-- the kind, class and run of l, between two pages
abbrev pub between : (l : Links) (prev next : ℕ) → Links
between l prev next = record { kind = l.kind; class = l.class; run = l.run; next = record { 0 = next }; prev = record { 0 = prev } }

abbrev pub next_to : (l : Links) (v : ℕ) → Links
next_to l v = between l l.prev.0 v

abbrev pub prev_to : (l : Links) (v : ℕ) → Links
prev_to l v = between l v l.next.0

-- ---- the lists

-- a list's first page, in the header or the class record
unfoldable pub first_of : (w : ℕ) (s : List ℕ) (list : ℕ) → ℕ
first_of w s list = pick (eqb list 0) (header_at s).first_run.0 (class_at w s (list - 1)).first.0

unfoldable pub with_first_run : (s : List ℕ) (p : ℕ) → List ℕ
with_first_run s p = with_header s (first_run_to (header_at s) p)

unfoldable pub with_first_page : (w : ℕ) (s : List ℕ) (c p : ℕ) → List ℕ
with_first_page w s c p = with_class w s c (first_to (class_at w s c) p)

unfoldable pub with_first : (w : ℕ) (s : List ℕ) (list p : ℕ) → List ℕ
with_first w s list p = pick (eqb list 0) (with_first_run s p) (with_first_page w s (list - 1) p)

-- v becomes the page after p
unfoldable pub linked_next : (w : ℕ) (s : List ℕ) (p v : ℕ) → List ℕ
linked_next w s p v = with_links w s p (next_to (links_at w s p) v)

-- v becomes the page before p
unfoldable pub linked_prev : (w : ℕ) (s : List ℕ) (p v : ℕ) → List ℕ
linked_prev w s p v = with_links w s p (prev_to (links_at w s p) v)

-- the same where p may be no page: then v becomes the list's first, and nothing has v before it
unfoldable pub with_next : (w : ℕ) (s : List ℕ) (list p v : ℕ) → List ℕ
with_next w s list p v = pick (eqb p no_page) (with_first w s list v) (linked_next w s p v)

unfoldable pub with_prev : (w : ℕ) (s : List ℕ) (p v : ℕ) → List ℕ
with_prev w s p v = pick (eqb p no_page) s (linked_prev w s p v)

-- the page with the links l leaves the list
unfoldable pub unlinked : (w : ℕ) (s : List ℕ) (list : ℕ) (l : Links) → List ℕ
unlinked w s list l = with_prev w (with_next w s list l.prev.0 l.next.0) l.next.0 l.prev.0

-- page p, with the kind, class and run of l, comes in front of h, the list's first page
unfoldable pub pushed_before : (w : ℕ) (s : List ℕ) (list p : ℕ) (l : Links) (h : ℕ) → List ℕ
pushed_before w s list p l h = with_first w (with_prev w (with_links w s p (between l no_page h)) h p) list p

unfoldable pub pushed : (w : ℕ) (s : List ℕ) (list p : ℕ) (l : Links) → List ℕ
pushed w s list p l = pushed_before w s list p l (first_of w s list)

-- page p, with the kind, class and run of l, takes the place of the page with the links old
unfoldable pub replaced : (w : ℕ) (s : List ℕ) (list : ℕ) (old : Links) (p : ℕ) (l : Links) → List ℕ
replaced w s list old p l =
    with_prev w (with_next w (with_links w s p (between l old.prev.0 old.next.0)) list old.prev.0 p) old.next.0 p
