use borrow.Author.Rules.{rules}
use Rattle.free_sound.proofs.bytes_of.Goals as goal

pub returns : goal.returns
returns c = λ i. record { number = 0; value = c.chunk_size.ensures.0 i }
