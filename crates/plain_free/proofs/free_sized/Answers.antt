use Rattle.std.proofs.Common.{rules}
use Rattle.plain_free.proofs.Chunked.{start-bytes}
use Rattle.plain_free.proofs.free_sized.Goals as goal

pub returns-then-starts_chunk-clause-slice : goal.returns-then-starts_chunk-clause-slice
returns-then-starts_chunk-clause-slice c = start-bytes _ _ _ _ _ (search rules) _ _ c.starts_chunk.ensures (search rules) c.free_chunk.ensures.slice
