use Rattle.branchless.proofs.Loops.{alls, all_more, all-fails}
use Rattle.map_occupancy.specs.Mirror.{words_are}
use Rattle.map_occupancy.proofs.all_words.Goals as goal

pub loop-j-init : goal.loop-j-init
loop-j-init c = search alls

pub returns-then-not-word_is : goal.returns-then-not-word_is
unfolding words_are
returns-then-not-word_is c = all-fails _ _ _ _ c.loop-j-test.true (rw c.expected_word.ensures at c.word_is.ensures) c.if-not-word_is.true

pub loop-j-preserved : goal.loop-j-preserved
loop-j-preserved c = all_more _ _ _ (rw c.expected_word.ensures at c.word_is.ensures) c.if-not-word_is.false c.loop-j.invariant

pub returns : goal.returns
unfolding words_are
returns c = search alls
