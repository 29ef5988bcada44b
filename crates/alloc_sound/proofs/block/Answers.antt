use Rattle.std.proofs.Common.{refl, arith}
use Rattle.alloc_sound.proofs.Answers.{offset-granted}
use Rattle.alloc_sound.proofs.block.Goals as goal

pub returns : goal.returns
returns c = offset-granted _ _ refl (omega arith)
