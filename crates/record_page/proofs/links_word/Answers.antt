use native.Mathlib.Omega.{arith}
use Rattle.record_page.proofs.links_word.Goals as goal

pub returns : goal.returns
returns c = omega arith
