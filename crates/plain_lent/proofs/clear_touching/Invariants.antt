use Rattle.std.proofs.Common.{◌≡◌, ◌++◌, take, drop}
use Rattle.plain.specs.Arrays.{remade}
use Rattle.plain.specs.Table.{apart, cleared}
use Rattle.plain_lent.proofs.clear_touching.Given as goal

abbrev pub invariant-loop-e : goal.invariant-loop-e
invariant-loop-e l = take l.e-index l.e-items ++ remade (λ j e. apart l.p l.q e) l.e-index (drop l.e-index l.e-items) ≡ cleared l.p l.q l.initial.e-items
