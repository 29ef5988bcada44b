-- The ten lists in an image. The head of list ℓ is the node 65535 + ℓ, past every page, whose next is the list's first page.
use Rattle.std.specs.Prelude.{ℕ, ◌+◌, ◌-◌, List, eqb, ltb}
use Rattle.base.specs.Tests.{pick}
use Rattle.base.specs.Links.{Linked}
use Rattle.records.specs.Layout.{no_page}
use Rattle.records.specs.declared.Links.{Links}
use Rattle.records.specs.Mirror.{first_to}
use Rattle.image.specs.Image.{Image, set_links}
use Rattle.image.specs.Update.{set_first_run, set_class}
use Rattle.lists.specs.Mirror.{between, next_to, prev_to}

abbrev pub head : ℕ → ℕ
head list = no_page + list

unfoldable pub first_in : (I : Image) (list : ℕ) → ℕ
first_in I list = pick (eqb list 0) I.first_run (I.class (list - 1)).first.0

unfoldable pub next_of : (I : Image) (q : ℕ) → ℕ
next_of I q = pick (ltb q no_page) (I.links q).next.0 (first_in I (q - no_page))

abbrev pub prev_of : (I : Image) (q : ℕ) → ℕ
prev_of I q = (I.links q).prev.0

-- the list holds these pages, in this order
abbrev pub Listed : (I : Image) (list : ℕ) (xs : List ℕ) → Type 0
Listed I list xs = Linked no_page (head list) (next_of I) (prev_of I) xs

-- ---- the changes of `Links`, on an image

unfoldable pub put_first : (I : Image) (list p : ℕ) → Image
put_first I list p = pick (eqb list 0) (set_first_run I p) (set_class I (list - 1) (first_to (I.class (list - 1)) p))

unfoldable pub put_next : (I : Image) (list p v : ℕ) → Image
put_next I list p v = pick (eqb p no_page) (put_first I list v) (set_links I p (next_to (I.links p) v))

abbrev pub put_prev : (I : Image) (p v : ℕ) → Image
put_prev I p v = set_links I p (prev_to (I.links p) v)

unfoldable pub unlink : (I : Image) (list : ℕ) (l : Links) → Image
unlink I list l = put_prev (put_next I list l.prev.0 l.next.0) l.next.0 l.prev.0

unfoldable pub push : (I : Image) (list p : ℕ) (l : Links) → Image
push I list p l = put_first (put_prev (set_links I p (between l no_page (first_in I list))) (first_in I list) p) list p

unfoldable pub put : (I : Image) (list : ℕ) (old : Links) (p : ℕ) (l : Links) → Image
put I list old p l = put_prev (put_next (set_links I p (between l old.prev.0 old.next.0)) list old.prev.0 p) old.next.0 p
