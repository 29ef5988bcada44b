use Rattle.validate_shape.proofs.kind_is.Goals as goal

pub returns : goal.returns
returns c = cc
