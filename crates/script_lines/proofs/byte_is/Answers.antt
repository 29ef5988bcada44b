use Rattle.script_lines.proofs.byte_is.Goals as goal

pub returns : goal.returns
returns c = rw c.get_byte.ensures
