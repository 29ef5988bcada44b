use Rattle.validate_pages.specs.Mirror.{class_fault}
use Rattle.validate_pages.proofs.class_fault.Goals as goal

pub returns : goal.returns
unfolding class_fault
returns c = cc
