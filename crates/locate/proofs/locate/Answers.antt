use Rattle.locate.specs.Mirror.{located}
use Rattle.base.proofs.Tests.{picks}
use Rattle.locate.proofs.locate.Goals as goal

pub returns-then-pages-x : goal.returns-then-pages-x
unfolding located
returns-then-pages-x c = search picks

pub returns : goal.returns
unfolding located
returns c = search picks
