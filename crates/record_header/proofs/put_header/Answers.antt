use Rattle.records.specs.Header.{with_header}
use Rattle.record_header.proofs.put_header.Goals as goal

pub returns : goal.returns
unfolding with_header
returns c = rw c.pack_header.ensures at c.put_word.ensures
