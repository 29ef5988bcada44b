use Rattle.plain_runs.specs.Tests.{passing}
use Rattle.plain_lent.proofs.Front.{returned-none, returned-whole}
use Rattle.plain_lent.proofs.release.Goals as goal

pub returns-then-k-eq0 : goal.returns-then-k-eq0
returns-then-k-eq0 c = returned-none _ _ _ c.if-k-eq0.true

pub returns : goal.returns
unfolding passing
returns c =
    returned-whole _ _ _ c.clear_touching.new.table _ c.requires c.if-k-eq0.false
    (rw (← c.add-q.ensures) c.clear_touching.ensures)
    (rw (← c.add-q.ensures) (rw (c.whole_run.ensures, c.len_of-l.ensures, c.len_of-r.ensures, c.ending_before.ensures, c.beginning_at.ensures) at c.push_front.ensures))
