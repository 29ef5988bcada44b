use Rattle.plain_decide.proofs.Lending.{lent_few, lent_free}
use Rattle.plain_engine.proofs.free.Goals as goal

pub returns-then-runs-lt12 : goal.returns-then-runs-lt12
returns-then-runs-lt12 c = lent_few _ _ _ _ _ c.if-runs-lt12.true c.too_short.ensures

pub returns : goal.returns
returns c =
    lent_free _ _ _ _ _ _ _ _ _ c.if-runs-lt12.false (rw c.pages_of.ensures at c.table_ok-ok.ensures) c.free-d.ensures
    (rw (c.first_of.ensures, c.len_of.ensures) at c.release.ensures) c.answer_of.ensures
