use borrow.Author.Rules.{rules}
use Rattle.script.proofs.Serving.{all_do}
use Rattle.script.proofs.Alike.{transcript_does}
use Rattle.script.proofs.serve_fresh.Goals as goal

pub returns : goal.returns
returns c =
    let all =
    transcript_does _ (λ i. (c.slice_known-1.given i).fits) c.requires.0 _ _ _ _
    (all_do _ _ _ _ _ _ _ _ _ _ _ c.start-first.ensures c.serve_lines-next.ensures c.put_summary.ensures) in
    record { answer = all.0; slice = all.1 }
