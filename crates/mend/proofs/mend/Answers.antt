use mathlib.Core.Path.{refl, sym}
use native.Mathlib.Omega.{arith}
use Rattle.validate.proofs.Answers.{all-zero}
use Rattle.mend.proofs.Steps.{other_length, beyond, all-written}
use borrow.Author.Rules.{rules}
use Rattle.mend.proofs.mend.Goals as goal

pub returns-then-damaged-target : goal.returns-then-damaged-target
returns-then-damaged-target c =
    let all = other_length c.args.w c.args.damaged.now c.args.target.now c.if-damaged-target.true in
    record { answer = all.0; slice = all.1 }

pub shaped-requires : goal.shaped-requires
shaped-requires c = (c.page_count-n.ensures, refl, all-zero 11)

pub returns-then-not-shaped : goal.returns-then-not-shaped
returns-then-not-shaped c =
    let all = beyond c.args.w c.args.damaged.now c.args.target.now c.if-damaged-target.false _ c.shaped.ensures.answer c.if-not-shaped.true in
    record { answer = all.0; slice = all.1 }

pub write-requires : goal.write-requires
write-requires c = (c.shaped.ensures.counters c.if-not-shaped.false, sym c.if-damaged-target.false)

pub overflow_cast-pages : goal.overflow_cast-pages
overflow_cast-pages c = let S = c.shaped.ensures.counters c.if-not-shaped.false in
    record { fits = omega (arith, S.most) }

pub returns : goal.returns
returns c =
    let all =
    all-written c.args.w c.args.damaged.now c.args.target.now c.if-damaged-target.false _ c.shaped.ensures.answer c.requires (search rules)
    (λ i. (c.shared_slice_known-1.given i).fits) c.if-not-shaped.false _ c.page_count-n.ensures _ c.write.ensures in
    record { answer = all.0; slice = all.1 }
