-- The operations of `run_extents` on an image.
use Rattle.std.proofs.Math.Option.{Option, none, some}
use Rattle.std.specs.Prelude.{ℕ, ◌+◌, ◌-◌, eqb, ltb}
use Rattle.base.specs.Tests.{pick}
use Rattle.base.specs.Functions.{fill}
use Rattle.records.specs.Layout.{no_page}
use Rattle.records.specs.declared.Links.{Links}
use Rattle.model.specs.State.{Run}
use Rattle.image.specs.Image.{Image, set_links, set_all_links}
use Rattle.image.specs.Update.{set_free}
use Rattle.lists.specs.Nodes.{unlink, push, put}
use Rattle.run_extents.specs.Mirror.{plain}
use Rattle.run_neighbours.specs.Mirror.{one_of}

abbrev pub fill_on : (J : Image) (p n : ℕ) (l : Links) → Image
fill_on J p n l = set_all_links J (fill J.links p n l)

unfoldable pub back_on : (J : Image) (t n : ℕ) → Image
back_on J t n = pick (ltb 1 n) (set_links J (t + (n - 1)) (plain 0 0 t)) J

-- ---- pages taken

unfoldable pub cut_on : (J : Image) (p k : ℕ) (l : Links) → Image
cut_on J p k l =
    pick (ltb k l.run) (back_on (put J 0 l (p + k) (plain 1 (l.run - k) no_page)) (p + k) (l.run - k)) (unlink J 0 l)

unfoldable pub front_on : (J : Image) (p k : ℕ) → Image
front_on J p k = cut_on (set_free J (J.free_pages - k)) p k (J.links p)

unfoldable pub taken_on : (J : Image) (p k : ℕ) → Image
taken_on J p k = set_links (fill_on (front_on J p k) p k (plain 4 0 no_page)) p (plain 3 k no_page)

-- ---- pages released; a and b are the lengths of the runs right before and right after

unfoldable pub drop_on : (J : Image) (n q : ℕ) → Image
drop_on J n q = pick (eqb n 0) J (unlink J 0 (J.links q))

-- the two runs have left the list, and the records of the whole but its first page are written
unfoldable pub joined_on : (J : Image) (p k a b : ℕ) → Image
joined_on J p k a b =
    back_on (fill_on (drop_on (drop_on J b (p + k)) a (p - a)) (p - one_of a) (one_of a + k + one_of b) (plain 0 0 no_page)) (p - a) (a + k + b)

unfoldable pub join_on : (J : Image) (p k a b : ℕ) → Image
join_on J p k a b = push (joined_on J p k a b) 0 (p - a) (plain 1 (a + k + b) no_page)

unfoldable pub released_on : (J : Image) (p k a b : ℕ) → Image
released_on J p k a b = join_on (set_free J (J.free_pages + k)) p k a b

-- ---- first fit

abbrev pub start_or : Option Run → ℕ
start_or none = no_page
start_or (some r) = r.start
