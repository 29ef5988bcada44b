use Rattle.report.proofs.Chunks.{chunk-line}
use Rattle.report.proofs.put_chunk.Goals as goal

pub returns : goal.returns
returns c = chunk-line _ _ _ _ _ _ _ _ _ c.chunk_start.ensures.answer c.offset_in-at.ensures c.put_chunk.ensures
