use Rattle.alloc_sound.specs.Mirror.{class_outcome, class_slice}
use Rattle.alloc_sound.proofs.First.{first_in, first-class}
use Rattle.alloc_sound.proofs.alloc_small.Goals as goal

pub get_first_in-p-requires : goal.get_first_in-p-requires
get_first_in-p-requires c = first_in _ c.args.pool.now _ _ c.requires.2 c.class_for-c.ensures.bound

pub returns-clause-answer : goal.returns-clause-answer
unfolding class_outcome class_slice
returns-clause-answer c = let p = first-class _ _ _ _ c.get_first_in-p.ensures in
    rw (p, c.class_for-c.ensures.answer) at c.chunk_from.ensures.answer

pub returns-clause-slice : goal.returns-clause-slice
unfolding class_outcome class_slice
returns-clause-slice c = let p = first-class _ _ _ _ c.get_first_in-p.ensures in
    rw (p, c.class_for-c.ensures.answer) at c.chunk_from.ensures.slice
