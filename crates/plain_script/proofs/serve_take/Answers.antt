use Rattle.script_replies.specs.Replies.{alloc_line}
use Rattle.plain_script.proofs.Serving.{take-replied}
use Rattle.plain_script.proofs.serve_take.Goals as goal

pub returns : goal.returns
unfolding alloc_line
returns c = take-replied _ _ _ _ _ _ _ _ c.requires.0 c.requires.1 _ c.alloc-r.ensures c.put_answer.ensures
