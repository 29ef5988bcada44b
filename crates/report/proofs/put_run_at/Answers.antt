use Rattle.report.proofs.Spans.{run_does}
use Rattle.report.proofs.put_run_at.Goals as goal

pub returns : goal.returns
returns c = run_does _ _ c.requires.0 _ c.requires.1 _ _ _ _ _ c.get_links-l.ensures c.put_run.ensures
