use Rattle.script_replies.specs.Replies.{free_line}
use Rattle.plain_script.proofs.Serving.{give_replied}
use Rattle.plain_script.proofs.serve_give.Goals as goal

pub returns : goal.returns
unfolding free_line
returns c = give_replied _ _ _ _ _ _ _ _ c.requires.0 c.requires.1 _ c.free-r.ensures c.put_answer.ensures
