use borrow.Author.Rules.{rules}
use native.Mathlib.Omega.{arith}
use Rattle.model.specs.View.{shown}
use Rattle.rules.specs.Bytes.{read}
use Rattle.report.proofs.Room.{spans-few}
use Rattle.report.proofs.Spans.{sound-pages, inside-pages, spans-none, spans_more, spans_all}
use Rattle.report.proofs.put_runs.Goals as goal

pub loop-p-init : goal.loop-p-init
loop-p-init c = spans-none _ _ _

pub put_run_at-next-requires : goal.put_run_at-next-requires
put_run_at-next-requires c = (sound-pages _ _ c.requires.0, inside-pages _ _ _ c.requires.0 (search rules), omega (arith, c.loop-p.invariant.0, spans-few (shown (read 2 c.args.image.now)) c.loop-p.p, c.requires.0.few, c.requires.1))

pub loop-p-preserved : goal.loop-p-preserved
loop-p-preserved c = spans_more _ _ _ _ _ _ _ _ c.loop-p.invariant c.put_run_at-next.ensures

pub returns : goal.returns
returns c = spans_all _ _ _ _ _ _ _ c.requires.0.pages (search rules) (search rules) c.loop-p.invariant
