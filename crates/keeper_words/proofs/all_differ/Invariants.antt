use mathlib.Core.Bool.{true}
use Rattle.base.specs.Tests.{all_below}
use Rattle.keeper_model.specs.Directory.{differ}
use Rattle.keeper_words.specs.Words.{entries}
use Rattle.keeper_words.proofs.Search.{Told}
use Rattle.keeper_words.proofs.all_differ.Given as goal

abbrev pub invariant-loop-i : goal.invariant-loop-i
invariant-loop-i l = Told true (λ k. all_below (λ j. differ (entries l.directory k) (entries l.directory j)) k) l.i
