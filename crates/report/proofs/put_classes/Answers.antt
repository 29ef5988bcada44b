use borrow.Author.Rules.{rules}
use native.Mathlib.Omega.{arith}
use Rattle.rules.specs.Bytes.{read}
use Rattle.report.proofs.Room.{classes-few}
use Rattle.report.proofs.Whole.{classes-none, classes_more, classes-all}
use Rattle.report.proofs.put_classes.Goals as goal

pub loop-c-init : goal.loop-c-init
loop-c-init c = classes-none _ _ _

pub put_class-next-requires : goal.put_class-next-requires
put_class-next-requires c = (c.requires.0, search rules, omega (arith, c.loop-c.invariant.0, classes-few (read 2 c.args.image.now) c.loop-c.c, c.requires.1))

pub loop-c-preserved : goal.loop-c-preserved
loop-c-preserved c = classes_more _ _ _ _ _ _ _ _ c.loop-c.invariant c.put_class-next.ensures

pub returns : goal.returns
returns c = classes-all _ _ _ _ _ _ (search rules) (search rules) c.loop-c.invariant
