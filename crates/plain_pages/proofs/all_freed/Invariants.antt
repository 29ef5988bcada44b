use Rattle.std.proofs.Common.{◌≡◌, ◌++◌, length, take, drop}
use Rattle.plain.specs.Arrays.{remade}
use Rattle.plain.specs.Pages.{freed_at}
use Rattle.plain_pages.proofs.all_freed.Given as goal

abbrev pub invariant-loop-j : goal.invariant-loop-j
invariant-loop-j l = (length l.e-items ≡ 12) × (take l.j l.e-items ++ remade (freed_at l.p l.k) l.j (drop l.j l.e-items) ≡ remade (freed_at l.p l.k) 0 l.initial.e-items)
