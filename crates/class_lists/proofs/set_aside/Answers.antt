use mathlib.Core.Path.{ap}
use Rattle.records.specs.declared.Links.{Links}
use Rattle.chunks.specs.Mirror.{set_aside}
use Rattle.class_lists.proofs.set_aside.Goals as goal

pub returns-clause-answer : goal.returns-clause-answer
unfolding set_aside
returns-clause-answer c = ap (λ (l : Links). l.next.0) c.get_links-l.ensures

pub returns-clause-slice : goal.returns-clause-slice
unfolding set_aside
returns-clause-slice c = rw (c.put_links.ensures, c.class_links.ensures, c.get_links-l.ensures) at c.put_prev.ensures
