use Rattle.rules.specs.Bytes.{fields_of, image_of}
use Rattle.validate_runs.specs.Mirror.{plain_at}
use Rattle.validate_runs.proofs.plain_at.Goals as goal

pub returns : goal.returns
unfolding plain_at fields_of image_of
returns c = rw (c.get_word-map.ensures, c.get_word-links.ensures) at c.both.ensures
