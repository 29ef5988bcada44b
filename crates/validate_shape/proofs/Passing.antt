-- What a well-shaped page lets the pass add.
use mathlib.Core.Path.{◌≡◌, refl, sym, ap, ◌∙◌}
use mathlib.Core.Bool.{Bool, true}
use mathlib.Core.List.{List}
use Prim.Native.Nat.{ℕ, ◌≤◌}
use Rattle.words.specs.Word.{word}
use Rattle.records.specs.Layout.{links_place}
use Rattle.records.specs.declared.Links.{Links}
use Rattle.records.specs.Page.{unpack_links, links_at}
use Rattle.rules.specs.Rules.{shape_at}
use Rattle.rules.specs.Bytes.{image_of, fields_of}
use Rattle.validate_pages.proofs.Pass.{kind_of_lem}

-- the links of a page by their word
pub links_are : (w : ℕ) (s : List ℕ) (p x : ℕ) → x ≡ word s (links_place w p) → unpack_links x ≡ (fields_of w s).image.links p
unfolding fields_of image_of links_at
links_are w s p x e = ap unpack_links e

pub class_ok : (w : ℕ) (s : List ℕ) (n p x : ℕ) (u : Bool) → u ≡ shape_at (fields_of w s) n p → u ≡ true → x ≡ word s (links_place w p)
    → (unpack_links x).kind ≡ 2 → (unpack_links x).class ≤ 8
class_ok w s n p x u fits on e k =
    let l = links_are w s p x e in
    rw l ((kind_of_lem w s n p 2 (sym fits ∙ on) (sym (ap (λ (y : Links). y.kind) l) ∙ k)).1 refl).in_range
