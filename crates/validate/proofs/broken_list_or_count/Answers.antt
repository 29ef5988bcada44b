use Rattle.validate.specs.Mirror.{from_rule3}
use Rattle.validate.proofs.Answers.{firsts}
use borrow.Author.Rules.{rules}
use Rattle.validate.proofs.broken_list_or_count.Goals as goal

pub returns-then-not-free_list : goal.returns-then-not-free_list
unfolding from_rule3
returns-then-not-free_list c = search firsts depth 12

pub returns-then-not-class_pages_listed : goal.returns-then-not-class_pages_listed
unfolding from_rule3
returns-then-not-class_pages_listed c = search firsts depth 12

pub returns-then-not-in_use : goal.returns-then-not-in_use
unfolding from_rule3
returns-then-not-in_use c = search firsts depth 12

pub returns-then-not-counts_and_peaks_fit : goal.returns-then-not-counts_and_peaks_fit
unfolding from_rule3
returns-then-not-counts_and_peaks_fit c = search firsts depth 12

pub returns : goal.returns
unfolding from_rule3
returns c = search firsts depth 12
