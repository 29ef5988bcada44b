use Rattle.map_new.proofs.First.{top_bits}
use Rattle.map_new.proofs.top_word.Goals as goal

pub returns : goal.returns
returns c = top_bits _ c.requires
