-- The mark of one offset's block written, in the order of code. P is the number of pages.
use Rattle.std.specs.Prelude.{Bool, not, List, ℕ, ◌/◌, ◌%◌, eqb, leb}
use Rattle.base.specs.Tests.{pick}
use Rattle.records.specs.declared.Links.{Links}
use Rattle.records.specs.Page.{links_at}
use Rattle.maps.specs.Bitmap.{with_mark}
use Rattle.model.specs.Classes.{chunk}
use Rattle.rules.specs.Bytes.{map_base}

unfoldable pub sized_put : (live : Bool) (w : ℕ) (s : List ℕ) (P c p q size : ℕ) → List ℕ
sized_put live w s P c p q size = with_mark s (map_base w P p c) (q / size % 65536) live

unfoldable pub class_put : (live : Bool) (w : ℕ) (s : List ℕ) (P c p q : ℕ) → List ℕ
class_put live w s P c p q = pick (leb c 8) (sized_put live w s P c p q (chunk c)) s

unfoldable pub run_put : (live : Bool) (w : ℕ) (s : List ℕ) (P p : ℕ) → List ℕ
run_put live w s P p = with_mark s (map_base w P p 3) 0 (not live)

unfoldable pub kind_put : (live : Bool) (w : ℕ) (s : List ℕ) (P p q : ℕ) → Links → List ℕ
kind_put live w s P p q l = pick (eqb l.kind 2) (class_put live w s P l.class p q) (pick (eqb l.kind 3) (run_put live w s P p) s)

unfoldable pub page_put : (live : Bool) (w : ℕ) (s : List ℕ) (P p q : ℕ) → List ℕ
page_put live w s P p q = kind_put live w s P p q (links_at w s p)

-- for an offset in the pages
unfoldable pub offset_put : (live : Bool) (w : ℕ) (s : List ℕ) (P off : ℕ) → List ℕ
offset_put live w s P off = page_put live w s P (off / 4096 % 65536) (off % 4096)
