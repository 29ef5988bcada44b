-- The loop that tries the entries of the lent table.
use Rattle.std.proofs.Common.{◌≡◌, ℕ, ◌+◌, ◌<◌, Bool, true, false, not, List, get_or, sym, refl, ◌∙◌, eqb}
use Rattle.base.specs.Count.{bit}
use Rattle.base.specs.Tests.{pick, all_below}
use Rattle.branchless.proofs.Loops.{all_more, all-fails}
use Rattle.plain.specs.Table.{vacant}
use Rattle.plain.specs.declared.Extent.{Extent}
use Rattle.plain.specs.declared.PageEntry.{PageEntry}
use Rattle.plain_rules.specs.Counts.{free_page}
use Rattle.plain_rules.specs.Rules.{how_many, holds_page, extent_ok, runs_ok}
use Rattle.plain_rules.specs.Mirror.{entry_ok, table_ok}

module _ (pages : List PageEntry) (t : List Extent) (p n : ℕ) (e : Extent) (z : Bool) (fn : n ≡ how_many (holds_page p) t) (fe : e ≡ get_or t p vacant)
    (fz : z ≡ not (pick (eqb n (bit (free_page pages p))) (extent_ok pages e) false)) where
  -- what the code asks of place p
  tried : pick (eqb n (bit (free_page pages p))) (extent_ok pages e) false ≡ entry_ok pages t p
  unfolding entry_ok runs_ok
  tried = rw (fn, fe)

  pub tried-next : z ≡ false → all_below (entry_ok pages t) p ≡ true → all_below (entry_ok pages t) (p + 1) ≡ true
  tried-next h c = all_more (entry_ok pages t) p (pick (eqb n (bit (free_page pages p))) (extent_ok pages e) false) tried (passes _ (sym fz ∙ h)) c
    where
      passes : (b : Bool) → not b ≡ false → b ≡ true
      passes true e = refl
      passes false e = sym e

  pub tried-fails : p < 12 → z ≡ true → false ≡ table_ok pages t
  unfolding table_ok
  tried-fails l h = all-fails (entry_ok pages t) 12 p (pick (eqb n (bit (free_page pages p))) (extent_ok pages e) false) l tried (fails _ (sym fz ∙ h))
    where
      fails : (b : Bool) → not b ≡ true → b ≡ false
      fails true e = sym e
      fails false e = refl
