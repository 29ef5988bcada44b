use Rattle.script_lines.specs.Lines.{begins}
use Rattle.script_lines.proofs.starts_with.Goals as goal

pub returns : goal.returns
unfolding begins
returns c = rw (c.byte_is-5.ensures, c.byte_is-4.ensures, c.byte_is-3.ensures, c.byte_is-2.ensures, c.byte_is.ensures)
    at c.all.ensures
