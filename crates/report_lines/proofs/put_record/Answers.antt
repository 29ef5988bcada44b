use Rattle.printing.proofs.Writing.{prints_then}
use Rattle.report_lines.proofs.put_record.Goals as goal

pub returns : goal.returns
returns c = let used = c.put_phrase-used.ensures in
    let total = c.put_phrase-total.ensures in
    prints_then _ _ _ _ _ _ _ _ (used.0, used.1) (prints_then _ _ _ _ _ _ _ _ (total.0, total.1) c.put_pair.ensures)
