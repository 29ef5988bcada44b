use Rattle.std.proofs.Common.{◌∙◌}
use Rattle.alloc_sound.specs.Mirror.{from_outcome, from_slice}
use Rattle.alloc_sound.proofs.Ways.{of_new-page}
use Rattle.base.proofs.Tests.{picks}
use Rattle.alloc_sound.proofs.chunk_from.Goals as goal

pub returns-then-p-pages-clause-answer : goal.returns-then-p-pages-clause-answer
unfolding from_outcome from_slice
returns-then-p-pages-clause-answer c = search picks

pub returns-then-p-pages-clause-slice : goal.returns-then-p-pages-clause-slice
unfolding from_outcome from_slice
returns-then-p-pages-clause-slice c = search picks

pub returns-else-p-pages-clause-answer : goal.returns-else-p-pages-clause-answer
unfolding from_outcome from_slice
returns-else-p-pages-clause-answer c = let z = of_new-page _ _ _ _ c.requires.0 c.requires.1 in
    let x = rw (← c.requires.2) at (c.from_runs.ensures.answer ∙ z.0) in
    let y = rw (← c.requires.2) at (c.from_runs.ensures.slice ∙ z.1) in
    search picks

pub returns-else-p-pages-clause-slice : goal.returns-else-p-pages-clause-slice
unfolding from_outcome from_slice
returns-else-p-pages-clause-slice c = let z = of_new-page _ _ _ _ c.requires.0 c.requires.1 in
    let x = rw (← c.requires.2) at (c.from_runs.ensures.answer ∙ z.0) in
    let y = rw (← c.requires.2) at (c.from_runs.ensures.slice ∙ z.1) in
    search picks
