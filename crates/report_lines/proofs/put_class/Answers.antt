use Rattle.report_lines.proofs.Printed.{class_printed}
use Rattle.report_lines.proofs.put_class.Goals as goal

pub returns : goal.returns
returns c = let class = c.put_phrase-class.ensures in
    let cut = c.put_phrase-cut.ensures in
    class_printed _ _ _ _ _ _ _ _ _ _ _ _ _ _ _ c.chunk_size.ensures.0 (class.0, class.1) (cut.0, cut.1) c.put_record.ensures
