use Rattle.plain_decide.proofs.Relied.{classed_sound}
use Rattle.plain_decide.proofs.free_counted.Goals as goal

pub free_sound-r-requires : goal.free_sound-r-requires
free_sound-r-requires c = classed_sound c.args.s _ c.requires

pub returns-clause-answer : goal.returns-clause-answer
returns-clause-answer c = cc

pub returns-clause-slice : goal.returns-clause-slice
returns-clause-slice c = cc
