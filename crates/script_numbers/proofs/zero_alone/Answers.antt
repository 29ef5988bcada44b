use Rattle.script_numbers.proofs.zero_alone.Goals as goal

pub returns : goal.returns
returns c = rw c.get_byte.ensures at c.implies.ensures
