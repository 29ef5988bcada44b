use Rattle.validate_shape.proofs.kind_before.Goals as goal

pub returns : goal.returns
returns c = cc
