use Rattle.std.proofs.Common.{arith}
use Rattle.validate_slabs.proofs.Top.{map-inside}
use Rattle.validate_pages.proofs.Steps.{ones_read, ones_recorded}
use Rattle.validate_pages.proofs.ones_of.Goals as goal

pub count_marks-requires : goal.count_marks-requires
count_marks-requires c = map-inside c.args.w c.args.pool.now _ _ _ _ c.requires.0 c.requires.1 c.map_at.ensures.answer

pub overflow_cast-result : goal.overflow_cast-result
overflow_cast-result c = omega (arith, ones_recorded c.args.w c.args.pool.now _ _ c.args.c _ c.requires.0 c.requires.1 c.if-c-lt3.false (λ i. (c.shared_slice_known-1.given i).fits) c.map_of.ensures)

pub returns-then-c-lt3-clause-answer : goal.returns-then-c-lt3-clause-answer
returns-then-c-lt3-clause-answer c = ones_read _ _ _ _ _ _ _ c.requires.0 c.map_at.ensures.answer c.count_marks.ensures.answer

pub returns-then-c-lt3-clause-bound : goal.returns-then-c-lt3-clause-bound
returns-then-c-lt3-clause-bound c = c.count_marks.ensures.bound

pub returns-else-c-lt3 : goal.returns-else-c-lt3
returns-else-c-lt3 c =
    let all = ones_recorded c.args.w c.args.pool.now _ _ c.args.c _ c.requires.0 c.requires.1 c.if-c-lt3.false (λ i. (c.shared_slice_known-1.given i).fits) c.map_of.ensures in
    record { answer = all.0; bound = all.1 }
