use Rattle.map_count.proofs.Counts.{of_8, of_16, of_32, of_64}
use borrow.Author.Rules.{rules}
use Rattle.map_count.proofs.count_marks.Goals as goal

pub returns-then-c-gt2 : goal.returns-then-c-gt2
returns-then-c-gt2 c =
    let all = of_64 _ _ _ (search rules) (c.ones.ensures.answer, c.ones.ensures.bound) in
    record { answer = all.0; bound = all.1 }

pub returns-in-0 : goal.returns-in-0
returns-in-0 c =
    let all = of_8 _ _ _ (search rules) (c.ones-in-0.ensures.answer, c.ones-in-0.ensures.bound) in
    record { answer = all.0; bound = all.1 }

pub returns-in-1 : goal.returns-in-1
returns-in-1 c =
    let all = of_16 _ _ _ (search rules) (c.ones-in-1.ensures.answer, c.ones-in-1.ensures.bound) in
    record { answer = all.0; bound = all.1 }

pub returns-in_default : goal.returns-in_default
returns-in_default c =
    let all = of_32 _ _ _ (search rules) (search rules) (search rules) (c.ones-in_default.ensures.answer, c.ones-in_default.ensures.bound) in
    record { answer = all.0; bound = all.1 }
