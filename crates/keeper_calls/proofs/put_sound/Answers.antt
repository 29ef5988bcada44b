use mathlib.Core.Path.{ap, ◌∙◌}
use Rattle.answers.specs.Outcome.{refused, of_alloc}
use Rattle.answers.proofs.Results.{passed_on}
use Rattle.keeper_calls.proofs.Served.{told, ready-both, put_empty, put-long, put_full, putting, put-placed}
use borrow.Author.Rules.{rules}
use Rattle.keeper_calls.proofs.put_sound.Goals as goal

pub returns-then-bytes-eq0 : goal.returns-then-bytes-eq0
returns-then-bytes-eq0 c =
    let all = told (put_empty c.args.w c.args.pool.now c.args.directory.now c.args.key c.args.bytes.now (ready-both _ _ _ c.requires) c.if-bytes-eq0.true) in
    record { answer = all.0; pool = all.1.0; directory = all.1.1 }

pub returns-then-bytes-gt-MOST_BYTES : goal.returns-then-bytes-gt-MOST_BYTES
returns-then-bytes-gt-MOST_BYTES c =
    let all = told (put-long c.args.w c.args.pool.now c.args.directory.now c.args.key c.args.bytes.now (ready-both _ _ _ c.requires) c.if-bytes-eq0.false c.if-bytes-gt-MOST_BYTES.true) in
    record { answer = all.0; pool = all.1.0; directory = all.1.1 }

pub returns-in_err-i : goal.returns-in_err-i
returns-in_err-i c =
    let u = c.in_err-i.ensures.full in
    let all = told (put_full c.args.w c.args.pool.now c.args.directory.now c.args.key c.args.bytes.now (ready-both _ _ _ c.requires) c.if-bytes-eq0.false c.if-bytes-gt-MOST_BYTES.false u.0) in
    record { answer = ap of_alloc (passed_on _ c.from_residual.ensures.1) ∙ ap refused u.1 ∙ all.0; pool = all.1.0; directory = all.1.1 }

pub put_in-requires : goal.put_in-requires
put_in-requires c =
    let (e, h) = c.in_ok-i.ensures.some in
    (c.requires, rw e (putting c.args.w c.args.pool.now c.args.directory.now c.args.key c.args.bytes.now (ready-both _ _ _ c.requires) c.if-bytes-eq0.false c.if-bytes-gt-MOST_BYTES.false (rw e at h)))

pub returns-clause-answer : goal.returns-clause-answer
returns-clause-answer c =
    let (e, h) = c.in_ok-i.ensures.some in
    let q = told (put-placed c.args.w c.args.pool.now c.args.directory.now c.args.key c.args.bytes.now (ready-both _ _ _ c.requires) c.if-bytes-eq0.false c.if-bytes-gt-MOST_BYTES.false (rw e at h)) in
    (rw e at c.put_in.ensures.answer) ∙ q.0

pub returns-clause-pool : goal.returns-clause-pool
returns-clause-pool c =
    let (e, h) = c.in_ok-i.ensures.some in
    let q = told (put-placed c.args.w c.args.pool.now c.args.directory.now c.args.key c.args.bytes.now (ready-both _ _ _ c.requires) c.if-bytes-eq0.false c.if-bytes-gt-MOST_BYTES.false (rw e at h)) in
    (rw e at c.put_in.ensures.pool) ∙ q.1.0

pub returns-clause-directory : goal.returns-clause-directory
returns-clause-directory c =
    let (e, h) = c.in_ok-i.ensures.some in
    let q = told (put-placed c.args.w c.args.pool.now c.args.directory.now c.args.key c.args.bytes.now (ready-both _ _ _ c.requires) c.if-bytes-eq0.false c.if-bytes-gt-MOST_BYTES.false (rw e at h)) in
    (rw e at c.put_in.ensures.directory) ∙ q.1.1
