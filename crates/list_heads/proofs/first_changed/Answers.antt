use Rattle.list_heads.proofs.Words.{first_word}
use Rattle.list_heads.proofs.first_changed.Goals as goal

pub returns : goal.returns
returns c = first_word _ _
