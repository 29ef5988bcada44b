use native.Mathlib.Omega.{arith}
use mathlib.Core.Path.{◌∙◌}
use Rattle.sound_pools.proofs.Validated.{whole}
use Rattle.keeper_put.proofs.Stored.{taken_met, taken_whole, roomy, put_met}
use borrow.Author.Rules.{rules}
use Rattle.keeper_put.proofs.put_in.Goals as goal

pub alloc_sound-a-requires : goal.alloc_sound-a-requires
alloc_sound-a-requires c = whole c.requires.0.validated

pub store-requires : goal.store-requires
store-requires c = let a = c.alloc_sound-a in
    let T = taken_met c.requires.0 _ a.ensures.answer a.ensures.slice in (
      rw T.1 (taken_whole c.requires.0 _),
      c.requires.1.inside,
      c.requires.1.short,
      rw T.1 (roomy c.requires.0 c.requires.1 (omega (arith, c.ranges.key)) (λ j. (c.shared_slice_known-1.given j).fits) a.result T.0),
    )

pub returns-clause-answer : goal.returns-clause-answer
returns-clause-answer c = let a = c.alloc_sound-a in
    let stored = c.store.ensures in
    let T = taken_met c.requires.0 _ a.ensures.answer a.ensures.slice in
    let M = put_met c.requires.0 c.requires.1 (omega (arith, c.ranges.key)) (λ j. (c.shared_slice_known-1.given j).fits) a.result T.0 in
    stored.answer ∙ M.0

pub returns-clause-pool : goal.returns-clause-pool
returns-clause-pool c = let a = c.alloc_sound-a in
    let stored = c.store.ensures in
    let T = taken_met c.requires.0 _ a.ensures.answer a.ensures.slice in
    let M = put_met c.requires.0 c.requires.1 (omega (arith, c.ranges.key)) (λ j. (c.shared_slice_known-1.given j).fits) a.result T.0 in
    rw T.1 at stored.pool ∙ M.1

pub returns-clause-directory : goal.returns-clause-directory
returns-clause-directory c = let a = c.alloc_sound-a in
    let stored = c.store.ensures in
    let T = taken_met c.requires.0 _ a.ensures.answer a.ensures.slice in
    let M = put_met c.requires.0 c.requires.1 (omega (arith, c.ranges.key)) (λ j. (c.shared_slice_known-1.given j).fits) a.result T.0 in
    stored.directory ∙ M.2
