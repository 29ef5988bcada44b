use Rattle.plain_chunks.proofs.Steps.{clear_found}
use Rattle.plain_chunks.proofs.has_free.Goals as goal

pub returns : goal.returns
returns c = clear_found _ _ _ _ c.lowest_free.ensures c.requires.1
