use Rattle.report.proofs.Chunks.{class-small, page_does}
use Rattle.report.proofs.put_page_at.Goals as goal

pub put_page-requires : goal.put_page-requires
put_page-requires c = (c.requires.0.pages, class-small _ _ c.requires.0 _ c.requires.1 _ c.get_links-l.ensures, c.requires.2)

pub returns : goal.returns
returns c = page_does _ _ c.requires.0 _ c.requires.1 _ _ _ _ _ c.get_links-l.ensures c.put_page.ensures
