use Rattle.report_lines.proofs.Printed.{chunk_printed}
use Rattle.report_lines.proofs.put_chunk.Goals as goal

pub returns : goal.returns
returns c = chunk_printed _ _ _ _ _ _ _ c.chunk_size-size.ensures.0 c.put_pair.ensures
