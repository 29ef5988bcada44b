use Rattle.keeper_model.specs.Store.{is_empty}
use Rattle.keeper_words.proofs.is_empty.Goals as goal

pub returns : goal.returns
unfolding is_empty
returns c = cc
