use mathlib.Core.Path.{ap}
use Rattle.records.specs.declared.Links.{Links}
use Rattle.rules.specs.Drawn.{links}
use Rattle.mend_order.proofs.Lists.{class_low}
use Rattle.mending.specs.Mirror.{page_anew}
use Rattle.mend_order.proofs.page_anew.Goals as goal

pub next_anew-next-requires : goal.next_anew-next-requires
next_anew-next-requires c = (c.requires.0, c.requires.1, c.requires.2, c.requires.3, ap (λ (l : Links). l.class) c.links_of-l.ensures, rw c.links_of-l.ensures (class_low _ _ c.requires.3 _ c.requires.1))

pub prev_anew-prev-requires : goal.prev_anew-prev-requires
prev_anew-prev-requires c = let e = c.links_of-l.ensures in
    (c.requires.0, c.requires.2, c.requires.3, ap (λ (l : Links). l.class) e, rw e (class_low _ _ c.requires.3 _ c.requires.1))

pub returns : goal.returns
unfolding page_anew
returns c = let e = c.links_of-l.ensures in
    λ i. links (e i).kind (e i).class (e i).run (c.next_anew-next.ensures i) (c.prev_anew-prev.ensures i)
