use mathlib.Core.Path.{sym, ◌∙◌}
use Rattle.rules.specs.Bytes.{fields_of}
use Rattle.validate_totals.proofs.Totals.{idle-is}
use Rattle.mend_order.proofs.Lists.{first_head}
use Rattle.mend.proofs.Steps.{free-few}
use Rattle.mend.proofs.header_anew.Goals as goal

pub overflow_cast-free : goal.overflow_cast-free
overflow_cast-free c = record { fits = free-few (fields_of c.args.w c.args.damaged.now) c.args.n c.args.t.now c.requires.most c.requires.counted _ c.low-free.ensures }

pub returns : goal.returns
returns c = let f = c.low-free.ensures ∙ sym (idle-is (fields_of c.args.w c.args.damaged.now) c.args.n c.args.t.now c.requires.most c.requires.counted) in
    let g = first_head (fields_of c.args.w c.args.damaged.now) c.args.n _ 0 c.args.n c.first_from-first.ensures in
    λ i. record {
      edition = c.saturating_sub-edition.ensures i;
      min_shift = 3;
      page_shift = 12;
      pages = c.args.n;
      free_pages = f i;
      first_run = record { 0 = g i };
    }
