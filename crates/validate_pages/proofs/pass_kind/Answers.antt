use Rattle.std.proofs.Common.{◌≢◌, rules}
use Rattle.validate_pages.proofs.Runs.{stays-kind}
use Rattle.validate_pages.proofs.pass_kind.Goals as goal

pub pass_free-requires : goal.pass_free-requires
pass_free-requires c = (search rules, cc)

pub pass_class-requires : goal.pass_class-requires
pass_class-requires c = (search rules, cc)

pub pass_taken-requires : goal.pass_taken-requires
pass_taken-requires c = (search rules, cc)

pub returns-in_default : goal.returns-in_default
returns-in_default c = let e = c.unpack_links-l.ensures in
    let x : c.unpack_links-l.result.kind ≢ 1 = search rules in
    let y : c.unpack_links-l.result.kind ≢ 2 = search rules in
    let z : c.unpack_links-l.result.kind ≢ 3 = search rules in
    stays-kind c.requires.0 _ _ c.requires.1 (rw e at x) (rw e at y) (rw e at z)
