use Rattle.alloc_sound.specs.Mirror.{peak_for}
use Rattle.base.proofs.Tests.{picks}
use Rattle.alloc_sound.proofs.raise_for.Goals as goal

pub returns-then-size-eq0 : goal.returns-then-size-eq0
unfolding peak_for
returns-then-size-eq0 c = search picks

pub returns-then-size-le-LARGEST_CHUNK : goal.returns-then-size-le-LARGEST_CHUNK
unfolding peak_for
returns-then-size-le-LARGEST_CHUNK c = search picks

pub returns-else-size-le-LARGEST_CHUNK : goal.returns-else-size-le-LARGEST_CHUNK
unfolding peak_for
returns-else-size-le-LARGEST_CHUNK c = search picks
