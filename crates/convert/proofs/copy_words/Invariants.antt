use mathlib.Core.Path.{◌≡◌}
use Rattle.convert.specs.Mirror.{words_copied}
use Rattle.convert.proofs.copy_words.Given as goal

abbrev pub invariant-loop-i : goal.invariant-loop-i
invariant-loop-i l = l.target ≡ words_copied l.to l.step l.from l.stride l.i l.source l.initial.target
