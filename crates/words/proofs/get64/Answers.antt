use Rattle.words.proofs.Chain.{turned}
use borrow.Author.Rules.{rules}
use Rattle.words.proofs.get64.Goals as goal

pub returns : goal.returns
returns c = cc (turned _ _ (λ i. (c.shared_slice_known-1.given i).fits))
