use Rattle.alloc_sound.specs.Mirror.{run_outcome, run_slice}
use Rattle.std.proofs.Common.{◌∙◌}
use Rattle.alloc_sound.proofs.Answers.{no_room_lem}
use Rattle.base.proofs.Tests.{picks}
use Rattle.alloc_sound.proofs.run_from.Goals as goal

pub returns-then-p-eq-NO_PAGE-clause-answer : goal.returns-then-p-eq-NO_PAGE-clause-answer
unfolding run_outcome run_slice
returns-then-p-eq-NO_PAGE-clause-answer c = no_room_lem ∙ search picks

pub returns-then-p-eq-NO_PAGE-clause-slice : goal.returns-then-p-eq-NO_PAGE-clause-slice
unfolding run_outcome run_slice
returns-then-p-eq-NO_PAGE-clause-slice c = search picks

pub returns-clause-answer : goal.returns-clause-answer
unfolding run_outcome run_slice
returns-clause-answer c = search picks

pub returns-clause-slice : goal.returns-clause-slice
unfolding run_outcome run_slice
returns-clause-slice c = search picks
