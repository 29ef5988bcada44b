use Rattle.script_numbers.specs.Numeral.{is_number}
use Rattle.script_numbers.proofs.is_number.Goals as goal

pub returns : goal.returns
unfolding is_number
returns c = rw (c.in_range.ensures, c.zero_alone.ensures, c.all_digits.ensures) at c.all.ensures
