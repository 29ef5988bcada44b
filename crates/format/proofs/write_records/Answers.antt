use Rattle.format.specs.Mirror.{written}
use Rattle.format.proofs.write_records.Goals as goal

pub returns : goal.returns
unfolding written
returns c = rw (c.clear_pages.ensures, c.clear_classes.ensures, c.put_header.ensures, c.fresh_header.ensures, c.clear_peaks.ensures) at c.link_run.ensures
