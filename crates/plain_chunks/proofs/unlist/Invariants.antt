use Rattle.std.proofs.Common.{◌≡◌, ◌++◌, length, take, drop, nat_eq}
use Rattle.base.specs.Tests.{pick}
use Rattle.plain.specs.Arrays.{remade}
use Rattle.plain_chunks.proofs.unlist.Given as goal

abbrev pub invariant-loop-x : goal.invariant-loop-x
invariant-loop-x l = (length l.x-items ≡ 12) × (take l.x-index l.x-items ++ remade (λ j x. pick (nat_eq x l.p) 255 x) l.x-index (drop l.x-index l.x-items) ≡ remade (λ j x. pick (nat_eq x l.p) 255 x) 0 l.initial.x-items)
