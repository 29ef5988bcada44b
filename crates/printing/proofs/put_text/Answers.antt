use mathlib.Core.Path.{refl, ◌∙◌}
use native.Mathlib.Omega.{arith}
use borrow.Author.Rules.{rules}
use Rattle.printing.proofs.Writing.{text_more, text-done}
use Rattle.printing.proofs.put_text.Goals as goal

pub loop-i-preserved : goal.loop-i-preserved
loop-i-preserved c = text_more _ _ _ _ _ _ (search rules) refl c.put_byte.ensures ∙ c.loop-i.invariant

pub returns : goal.returns
returns c = (refl, text-done _ _ _ _ _ (omega arith) (omega arith) c.loop-i.invariant)
