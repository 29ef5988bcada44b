use Rattle.rules.specs.Bytes.{fields_of, image_of}
use Rattle.validate_fields.proofs.links_of.Goals as goal

pub returns : goal.returns
unfolding fields_of image_of
returns c = c.get_links.ensures
