use Rattle.records.specs.Page.{with_links}
use Rattle.record_page.proofs.put_links.Goals as goal

pub returns : goal.returns
unfolding with_links
returns c = rw (c.links_word.ensures, c.pack_links.ensures) at c.put_word.ensures
