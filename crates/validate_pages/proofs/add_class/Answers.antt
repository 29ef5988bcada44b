use Rattle.std.proofs.Common.{◌≤◌, arith, rules}
use Rattle.validate_pages.specs.Mirror.{class_added}
use Rattle.validate_pages.proofs.add_class.Goals as goal

pub class_weight-requires : goal.class_weight-requires
class_weight-requires c = (rw c.unpack_links-l.ensures c.requires.3, search rules)

pub add_at-requires : goal.add_at-requires
add_at-requires c = let h : c.unpack_links-l.result.class ≤ 8 = rw c.unpack_links-l.ensures c.requires.3 in omega arith

pub class_fault-requires : goal.class_fault-requires
class_fault-requires c = rw c.unpack_links-l.ensures c.requires.3

pub returns : goal.returns
unfolding class_added
returns c = rw (c.class_fault.ensures, c.add_at.ensures, c.class_weight.ensures, c.ones_of-ones.ensures.answer, c.unpack_links-l.ensures) at c.add_at-2.ensures
