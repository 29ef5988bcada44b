use borrow.Author.Rules.{rules}
use Rattle.script.proofs.Serving.{first_does}
use Rattle.script.proofs.start.Goals as goal

pub returns : goal.returns
returns c = let (n, w, few) = first_does _ _ _ _ _ c.format.ensures.answer c.put_formatted.ensures in
    (n, w, c.format.ensures.slice, few)
