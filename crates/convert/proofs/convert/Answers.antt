use mathlib.Core.Path.{ap, ◌∙◌}
use native.Mathlib.Omega.{arith}
use Rattle.answers.specs.Outcome.{refused, of_format}
use Rattle.answers.proofs.Results.{passed_on}
use Rattle.convert.proofs.Steps.{not_sound_lem, other_pages, has_room, all-written}
use Rattle.convert.proofs.convert.Goals as goal

pub sound_pages-requires : goal.sound_pages-requires
sound_pages-requires c = omega arith

pub returns-in_err-pages : goal.returns-in_err-pages
returns-in_err-pages c =
    let a = c.args in
    let u = c.in_err-pages.ensures.unsound in
    let all = not_sound_lem a.source.now a.target.now (λ i. (c.shared_slice_known-1.given i).fits) (λ i. (c.slice_known-1.given i).fits) u.0 in
    record { answer = ap of_format (passed_on _ c.from_residual.ensures.1) ∙ ap refused u.1 ∙ all.0; slice = all.1 }

pub returns-then-page_count-pages : goal.returns-then-page_count-pages
returns-then-page_count-pages c =
    let a = c.args in
    let all = other_pages a.source.now a.target.now (λ i. (c.shared_slice_known-1.given i).fits) (λ i. (c.slice_known-1.given i).fits) c.in_ok-pages.ensures.sound c.page_count.result c.page_count.ensures c.if-page_count-pages.true in
    record { answer = all.0; slice = all.1 }

pub write-requires : goal.write-requires
write-requires c = let a = c.args in has_room a.source.now a.target.now (λ i. (c.shared_slice_known-1.given i).fits) (λ i. (c.slice_known-1.given i).fits) c.in_ok-pages.ensures.sound c.page_count.result c.page_count.ensures c.if-page_count-pages.false

pub returns : goal.returns
returns c =
    let a = c.args in
    let all = all-written a.source.now a.target.now (λ i. (c.shared_slice_known-1.given i).fits) (λ i. (c.slice_known-1.given i).fits) c.in_ok-pages.ensures.sound c.page_count.result c.page_count.ensures c.if-page_count-pages.false _ c.write.ensures in
    record { answer = all.0; slice = all.1 }
