use Rattle.chunk_free.proofs.drop_page.Goals as goal

pub returns : goal.returns
returns c = rw (c.put_mark_in.ensures, c.release.ensures, c.delist.ensures) at c.count_page_back.ensures
