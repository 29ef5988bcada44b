use Rattle.sizes.proofs.Laws.{chunk_shifted}
use Rattle.sizes.proofs.chunk_size.Goals as goal

pub returns : goal.returns
returns c = chunk_shifted c.args.c c.requires
