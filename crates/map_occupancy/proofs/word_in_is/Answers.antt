use lib.Dec.{eqb}
use Prim.Native.Nat.{ℕ}
use mathlib.Core.Path.{ap}
use borrow.Author.Rules.{rules}
use Rattle.map_occupancy.proofs.word_in_is.Goals as goal

pub returns : goal.returns
returns c = ap (λ (x : ℕ). eqb x c.args.v) c.get_word_in.ensures
