use Rattle.rules.specs.Bytes.{fields_of, image_of}
use Rattle.validate_fields.proofs.map_of.Goals as goal

pub returns : goal.returns
unfolding fields_of image_of
returns c = rw c.place.ensures at c.get_word.ensures
