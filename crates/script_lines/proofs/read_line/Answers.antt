use mathlib.Core.Path.{refl}
use borrow.Author.Rules.{rules}
use Rattle.script_lines.proofs.Words.{begins-long, asks_take, asks_give, asks_nothing}
use Rattle.script_lines.proofs.read_line.Goals as goal

pub slice_bounds-take_of-count : goal.slice_bounds-take_of-count
slice_bounds-take_of-count c = begins-long _ 116 97 107 101 _ c.starts_with.ensures c.if-starts_with.true

pub slice_bounds-take_of-start : goal.slice_bounds-take_of-start
slice_bounds-take_of-start c = search (rules, begins-long _ 116 97 107 101 _ c.starts_with.ensures c.if-starts_with.true)

pub returns-then-starts_with : goal.returns-then-starts_with
returns-then-starts_with c = asks_take _ _ _ c.starts_with.ensures c.if-starts_with.true c.take_of.ensures

pub slice_bounds-give_of-count : goal.slice_bounds-give_of-count
slice_bounds-give_of-count c = begins-long _ 103 105 118 101 _ c.starts_with-2.ensures c.if-starts_with-2.true

pub slice_bounds-give_of-start : goal.slice_bounds-give_of-start
slice_bounds-give_of-start c = search (rules, begins-long _ 103 105 118 101 _ c.starts_with-2.ensures c.if-starts_with-2.true)

pub returns-then-starts_with-2 : goal.returns-then-starts_with-2
returns-then-starts_with-2 c = asks_give _ _ _ c.starts_with.ensures _ c.starts_with-2.ensures
    c.if-starts_with.false c.if-starts_with-2.true c.give_of.ensures

pub returns : goal.returns
returns c = asks_nothing _ _ _ c.starts_with.ensures _ c.starts_with-2.ensures c.if-starts_with.false c.if-starts_with-2.false refl
