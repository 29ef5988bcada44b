use mathlib.Core.Path.{sym, ◌∙◌}
use native.Mathlib.Omega.{arith}
use Rattle.keeper_words.proofs.Search.{told_none, told_more, each-fails, each_all}
use Rattle.keeper_words.proofs.all_differ.Goals as goal

pub loop-i-init : goal.loop-i-init
loop-i-init c = told_none _ _

pub returns-then-not-new_among : goal.returns-then-not-new_among
returns-then-not-new_among c = each-fails _ _ c.loop-i.i (omega arith) (sym c.new_among.ensures ∙ c.if-not-new_among.true)

pub loop-i-preserved : goal.loop-i-preserved
loop-i-preserved c = told_more _ _ _ c.loop-i.invariant (sym c.new_among.ensures ∙ c.if-not-new_among.false)

pub returns : goal.returns
returns c = each_all _ _ _ (omega arith) c.loop-i.invariant
