use Rattle.std.proofs.Common.{refl}
use Rattle.records.specs.Class.{unpack_class}
use Rattle.class_counting.specs.Mirror.{used_in}
use Rattle.class_counting.proofs.used_in.Goals as goal

pub returns : goal.returns
unfolding used_in unpack_class
returns c = refl
