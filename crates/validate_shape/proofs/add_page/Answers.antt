use mathlib.Core.Path.{◌≡◌}
use mathlib.Core.Logic.{◌≢◌}
use Rattle.validate_pages.proofs.Steps.{added_inside, added_first, added_class, added_none}
use borrow.Author.Rules.{rules}
use Rattle.validate_shape.proofs.add_page.Goals as goal

pub returns-then-kind-eq-INSIDE_FREE : goal.returns-then-kind-eq-INSIDE_FREE
returns-then-kind-eq-INSIDE_FREE c = let k : c.unpack_links-l.result.kind ≡ 0 = search rules in
    added_inside _ _ _ _ _ _ (rw c.unpack_links-l.ensures at k) c.add_at.ensures

pub returns-then-kind-eq-FIRST_FREE : goal.returns-then-kind-eq-FIRST_FREE
returns-then-kind-eq-FIRST_FREE c = let k : c.unpack_links-l.result.kind ≡ 1 = search rules in
    added_first _ _ _ _ _ _ (rw c.unpack_links-l.ensures at k) c.add_at-then-kind-eq-FIRST_FREE.ensures

pub add_class-requires : goal.add_class-requires
add_class-requires c = let k : c.unpack_links-l.result.kind ≡ 2 = search rules in
    (search rules, search rules, search rules, c.requires.3 (rw c.unpack_links-l.ensures at k))

pub returns-then-kind-eq-CLASS_PAGE : goal.returns-then-kind-eq-CLASS_PAGE
returns-then-kind-eq-CLASS_PAGE c = let k : c.unpack_links-l.result.kind ≡ 2 = search rules in
    added_class _ _ _ _ _ _ (rw c.unpack_links-l.ensures at k) c.add_class.ensures

pub returns : goal.returns
returns c = let e = c.unpack_links-l.ensures in
    let x : c.unpack_links-l.result.kind ≢ 0 = search rules in
    let y : c.unpack_links-l.result.kind ≢ 1 = search rules in
    let z : c.unpack_links-l.result.kind ≢ 2 = search rules in
    added_none _ _ _ _ _ (rw e at x) (rw e at y) (rw e at z)
