use mathlib.Core.Path.{◌∙◌}
use native.Mathlib.Omega.{arith}
use Rattle.words.proofs.Turn.{word_turned}
use borrow.Author.Rules.{rules}
use Rattle.words.proofs.put64.Goals as goal

pub returns : goal.returns
returns c = let a = c.args in
    let e = rw c.swap64.ensures at c.put_little64.ensures in
    e ∙ word_turned a.s.now a.at a.v (omega arith)
