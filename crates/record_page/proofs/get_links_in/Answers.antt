use Rattle.records.specs.Page.{links_at}
use Rattle.record_page.proofs.get_links_in.Goals as goal

pub returns : goal.returns
unfolding links_at
returns c = rw (c.get_word_in.ensures, c.links_word.ensures) at c.unpack_links.ensures
