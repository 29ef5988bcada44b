use Rattle.alloc_sound.proofs.alloc_large.Goals as goal

pub returns-clause-answer : goal.returns-clause-answer
returns-clause-answer c = rw c.pages_for-k.ensures at c.run_of_pages.ensures.answer

pub returns-clause-slice : goal.returns-clause-slice
returns-clause-slice c = rw c.pages_for-k.ensures at c.run_of_pages.ensures.slice
