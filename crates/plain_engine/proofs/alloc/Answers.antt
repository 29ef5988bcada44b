use Rattle.std.proofs.Math.Seq.{length-take-le}
use Rattle.plain_decide.proofs.Lending.{lent_few, lent_alloc}
use Rattle.plain_decide.proofs.Relied.{entry-low}
use Rattle.plain_engine.proofs.alloc.Goals as goal

pub returns-then-runs-lt12 : goal.returns-then-runs-lt12
returns-then-runs-lt12 c = lent_few _ _ _ _ _ c.if-runs-lt12.true c.too_short.ensures

pub alloc-d-requires : goal.alloc-d-requires
alloc-d-requires c = entry-low _ _ _ _ _ (length-take-le 12 _ c.if-runs-lt12.false) c.table_ok-ok.ensures c.entry-e.ensures

pub returns : goal.returns
returns c =
    lent_alloc _ _ _ _ _ _ _ c.entry-e.result c.alloc-d.result _ _ _ c.if-runs-lt12.false c.wanted.ensures c.first_fit-i.ensures c.entry-e.ensures
    (rw c.pages_of.ensures at c.table_ok-ok.ensures) c.alloc-d.ensures (rw c.len_of.ensures at c.carve.ensures) c.answer_of.ensures
