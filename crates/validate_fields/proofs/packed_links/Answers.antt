use Rattle.validate_fields.proofs.packed_links.Goals as goal

pub returns : goal.returns
returns c = rw c.place.ensures at c.get_word.ensures
