use Rattle.list_heads.proofs.Words.{first-put}
use borrow.Author.Rules.{rules}
use Rattle.list_heads.proofs.put_first_page.Goals as goal

pub returns : goal.returns
returns c = first-put c.args.w c.args.pool.now (λ i. (c.slice_known-1.given i).fits) c.args.c _ c.args.p.0 c.place.ensures (search rules) _ c.change_first.ensures
