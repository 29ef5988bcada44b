use Rattle.records.specs.Header.{header_at}
use Rattle.record_header.proofs.get_header.Goals as goal

pub returns : goal.returns
unfolding header_at
returns c = rw c.get_word.ensures at c.unpack_header.ensures
