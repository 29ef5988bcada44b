use Rattle.base.proofs.Tests.{picks}
use Rattle.map_occupancy.specs.Mirror.{words_from}
use borrow.Author.Rules.{rules}
use Rattle.map_occupancy.proofs.words_from.Goals as goal

pub returns-then-word_in_is : goal.returns-then-word_in_is
unfolding words_from
returns-then-word_in_is c = search picks

pub returns-else-word_in_is : goal.returns-else-word_in_is
unfolding words_from
returns-else-word_in_is c = search picks
