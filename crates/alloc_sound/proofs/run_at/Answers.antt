use Rattle.alloc_sound.proofs.Answers.{page-start}
use Rattle.alloc_sound.proofs.run_at.Goals as goal

pub returns-clause-answer : goal.returns-clause-answer
returns-clause-answer c = page-start _ _ c.block.ensures

pub returns-clause-slice : goal.returns-clause-slice
returns-clause-slice c = c.take_run.ensures
