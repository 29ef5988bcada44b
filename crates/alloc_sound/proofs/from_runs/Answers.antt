use Rattle.std.proofs.Common.{◌∙◌}
use Rattle.alloc_sound.specs.Mirror.{runs_outcome, runs_slice}
use Rattle.alloc_sound.proofs.Answers.{nothing_asked_lem}
use Rattle.base.proofs.Tests.{picks}
use Rattle.alloc_sound.proofs.from_runs.Goals as goal

pub returns-then-size-eq0-clause-answer : goal.returns-then-size-eq0-clause-answer
unfolding runs_outcome runs_slice
returns-then-size-eq0-clause-answer c = nothing_asked_lem ∙ search picks

pub returns-then-size-eq0-clause-slice : goal.returns-then-size-eq0-clause-slice
unfolding runs_outcome runs_slice
returns-then-size-eq0-clause-slice c = search picks

pub returns-then-size-le-LARGEST_CHUNK-clause-answer : goal.returns-then-size-le-LARGEST_CHUNK-clause-answer
unfolding runs_outcome runs_slice
returns-then-size-le-LARGEST_CHUNK-clause-answer c = search picks

pub returns-then-size-le-LARGEST_CHUNK-clause-slice : goal.returns-then-size-le-LARGEST_CHUNK-clause-slice
unfolding runs_outcome runs_slice
returns-then-size-le-LARGEST_CHUNK-clause-slice c = search picks

pub returns-else-size-le-LARGEST_CHUNK-clause-answer : goal.returns-else-size-le-LARGEST_CHUNK-clause-answer
unfolding runs_outcome runs_slice
returns-else-size-le-LARGEST_CHUNK-clause-answer c = search picks

pub returns-else-size-le-LARGEST_CHUNK-clause-slice : goal.returns-else-size-le-LARGEST_CHUNK-clause-slice
unfolding runs_outcome runs_slice
returns-else-size-le-LARGEST_CHUNK-clause-slice c = search picks
