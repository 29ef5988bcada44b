use Rattle.std.proofs.Common.{◌≡◌, ◌++◌, take, drop}
use Rattle.plain.specs.Arrays.{remade}
use Rattle.plain.specs.Chunks.{new_byte}
use Rattle.plain_chunks.proofs.new_page.Given as goal

abbrev pub invariant-loop-x : goal.invariant-loop-x
invariant-loop-x l = take l.x l.bytes ++ remade (new_byte l.p l.c) l.x (drop l.x l.bytes) ≡ remade (new_byte l.p l.c) 0 l.initial.bytes
