use Rattle.keeper_model.specs.Directory.{entry_ok}
use Rattle.keeper_room.proofs.word_fits.Goals as goal

pub returns : goal.returns
unfolding entry_ok
returns c = cc
