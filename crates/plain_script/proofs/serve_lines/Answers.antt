use mathlib.Core.Path.{◌≡◌, refl, ap, ◌∙◌}
use mathlib.Core.List.{[]}
use native.Mathlib.Omega.{arith}
use lib.ListN.{drop, drop_of_length-le}
use borrow.Author.Rules.{rules}
use Rattle.script_lines.specs.Lines.{lines}
use Rattle.plain.specs.Plain.{read_plain}
use Rattle.plain_host.specs.Host.{shown}
use Rattle.plain_script.proofs.Serving.{left-all, left_as, left_more, left-none, replies-few}
use Rattle.plain_script.proofs.serve_lines.Goals as goal

pub loop-at-init : goal.loop-at-init
loop-at-init c = (search rules, refl, refl, search rules, search rules, left-all _ _ _ _)

pub serve_line-t-requires : goal.serve_line-t-requires
serve_line-t-requires c = (
  c.loop-at.invariant.3,
  c.loop-at.invariant.4,
  omega (arith, c.loop-at.invariant.5.place, replies-few (read_plain (shown c.args.s) c.args.chunks.now) c.args.input.now, c.requires.2),
)

pub loop-at-preserved : goal.loop-at-preserved
loop-at-preserved c = let l = c.line_end-end.ensures in
    let r = c.serve_line-t.ensures in (
      search rules,
      r.long ∙ c.loop-at.invariant.1,
      search rules,
      omega (arith, r.long, c.loop-at.invariant.3),
      r.sound,
      left_more _ _ _ _ _ _ _ _ _ _ _ _ _ r (left_as _ _ _ _ _ _ _ _ _ l.2 c.loop-at.invariant.5),
    )

pub returns : goal.returns
returns c = let a = c.args in
    let none_left : lines (drop c.loop-at.at a.input.now) ≡ [] = ap lines (drop_of_length-le a.input.now {i = c.loop-at.at} (search rules)) in
    left-none _ _ _ _ _ _ _ _ c.loop-at.invariant.4 (left_as _ _ _ _ _ _ _ _ _ none_left c.loop-at.invariant.5)
