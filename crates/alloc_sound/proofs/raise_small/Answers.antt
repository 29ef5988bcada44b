use Rattle.alloc_sound.proofs.raise_small.Goals as goal

pub returns : goal.returns
returns c = rw c.class_for.ensures.answer at c.raise_peak.ensures
