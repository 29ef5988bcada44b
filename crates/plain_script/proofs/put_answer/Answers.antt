use Rattle.std.proofs.Common.{rules}
use Rattle.plain_script.proofs.Serving.{says-granted, says-refused}
use Rattle.plain_script.proofs.put_answer.Goals as goal

pub returns-then-number-eq0 : goal.returns-then-number-eq0
returns-then-number-eq0 c = says-granted _ _ _ _ c.args.word.now _ _ (search rules) c.put_line.ensures

pub returns-else-number-eq0 : goal.returns-else-number-eq0
returns-else-number-eq0 c = says-refused _ _ _ _ c.args.word.now _ _ (search rules) c.put_line-else-number-eq0.ensures
