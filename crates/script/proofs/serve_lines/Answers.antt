use mathlib.Core.Path.{◌≡◌, refl, ap}
use mathlib.Core.List.{[]}
use Prim.Native.Nat.{◌+◌, ◌-◌, ◌≤◌}
use native.Mathlib.Omega.{arith}
use lib.ListN.{length, drop, drop_of_length-le}
use borrow.Author.Rules.{rules}
use Rattle.script_lines.specs.Lines.{lines}
use Rattle.script.proofs.Serving.{Left, left-all, left_as, left_more, left-none}
use Rattle.script.proofs.Room.{text-fits}
use Rattle.script.proofs.serve_lines.Goals as goal

pub loop-at-init : goal.loop-at-init
loop-at-init c = (search rules, refl, refl, left-all _ _ _ _)

pub serve_line-next-requires : goal.serve_line-next-requires
serve_line-next-requires c = omega (arith, c.loop-at.invariant.3.0, text-fits c.args.pool.now c.args.input.now, c.requires)

pub loop-at-preserved : goal.loop-at-preserved
loop-at-preserved c = let l = c.line_end-end.ensures in (
  search rules,
  search rules,
  search rules,
  left_more _ _ _ _ _ _ _ _ _ _ _ _ c.serve_line-next.ensures (left_as _ _ _ _ _ _ _ _ _ l.2 c.loop-at.invariant.3),
)

pub returns : goal.returns
returns c = let a = c.args in
    let none_left : lines (drop c.loop-at.at a.input.now) ≡ [] = ap lines (drop_of_length-le a.input.now {i = c.loop-at.at} (search rules)) in
    let (e, f, g) = left-none _ _ _ _ _ _ _ (left_as _ _ _ _ _ _ _ _ _ none_left c.loop-at.invariant.3) in
    (e, f, g, omega (arith, e, text-fits a.pool.now a.input.now))
