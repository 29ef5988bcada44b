use Rattle.classes.proofs.Numbers.{own-words}
use Rattle.classes.proofs.own_word.Goals as goal

pub returns-in-0 : goal.returns-in-0
returns-in-0 c = search own-words

pub returns-in-1 : goal.returns-in-1
returns-in-1 c = search own-words

pub returns-in-2 : goal.returns-in-2
returns-in-2 c = search own-words

pub returns-in_default : goal.returns-in_default
returns-in_default c = search own-words
