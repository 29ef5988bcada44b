use mathlib.Core.Path.{◌≡◌}
use Rattle.mend.specs.Mirror.{links_below}
use Rattle.mend.proofs.write_links.Given as goal

abbrev pub invariant-loop-p : goal.invariant-loop-p
invariant-loop-p l = l.target ≡ links_below l.w l.damaged l.n l.initial.target l.p
