-- The three demands together.
use Rattle.demands.specs.Demands.{Claims}
use Rattle.demands.proofs.Calls.{demand1, demand2}
use Rattle.demands.proofs.Turns.{demand3, demand3-from}
use Rattle.demands.proofs.Corollaries.{corollaries}
use Rattle.demands.proofs.BookCorollaries.{book-corollaries}

pub all-demands : Claims
all-demands w wide narrow s B = record {
  demand1 = demand1 w wide narrow s B;
  demand2 = demand2 w wide narrow s B;
  demand3 = demand3 w wide narrow s B;
  demand3-from = demand3-from w wide narrow s B;
  book-corollaries = book-corollaries w wide narrow s B;
  corollaries = corollaries w wide narrow s B;
}
