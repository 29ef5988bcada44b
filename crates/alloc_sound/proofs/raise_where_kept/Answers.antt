use Rattle.alloc_sound.proofs.Slices.{no_peak}
use Rattle.alloc_sound.proofs.raise_where_kept.Goals as goal

pub returns-else-w-gt2 : goal.returns-else-w-gt2
returns-else-w-gt2 c = no_peak _ _ _ c.if-w-gt2.false
