-- What check_mended and mend answer, and what mend leaves (SPEC 14): of the damaged pool s and the copy, or the target, t.
use Rattle.std.specs.Prelude.{Bool, List, [], ◌∷◌, ℕ, ◌+◌, ◌-◌, eqb, leb, length, get_or}
use Rattle.base.specs.Tests.{pick, all_of, all_below}
use Rattle.records.specs.Layout.{pages_from}
use Rattle.records.specs.declared.Links.{Links}
use Rattle.answers.specs.Outcome.{Outcome, granted, refused}
use Rattle.answers.specs.declared.Refusal.TheVariants.{NotSound, WrongLength, BeyondMending, OtherBlocks}
use Rattle.rules.specs.Fields.{Fields, map}
use Rattle.rules.specs.Bytes.{pages_in, fields_of, broken_rule}
use Rattle.mending.specs.Mending.{shaped, mended_copy}

-- two page records: both free, or of the same kind, class, run length and map field
unfoldable pub same_record : (l k : Links) (x y : ℕ) → Bool
same_record l k x y =
    pick (leb l.kind 1) (leb k.kind 1)
    (all_of (eqb l.kind k.kind ∷ eqb l.class k.class ∷ eqb l.run k.run ∷ eqb x y ∷ []))

unfoldable pub same_page_at : (v u : Fields) (p : ℕ) → Bool
same_page_at v u p = same_record (v.image.links p) (u.image.links p) (map v p) (map u p)

-- byte i from byte a on
unfoldable pub same_byte_from : (a : ℕ) (s t : List ℕ) (i : ℕ) → Bool
same_byte_from a s t i = eqb (get_or s (a + i) 0) (get_or t (a + i) 0)

-- the pages that the records tell, and all page bytes and the tail
unfoldable pub same_blocks : (w : ℕ) (s t : List ℕ) → Bool
same_blocks w s t = all_below (same_page_at (fields_of w s) (fields_of w t)) (pages_in w s)

unfoldable pub same_rest : (w : ℕ) (s t : List ℕ) → Bool
same_rest w s t = all_below (same_byte_from (pages_from w (pages_in w s)) s t) (length s - pages_from w (pages_in w s))

-- a sound copy with other bytes or other blocks
unfoldable pub compared : (w : ℕ) (s t : List ℕ) → Outcome
compared w s t = pick (same_rest w s t) (pick (same_blocks w s t) (granted 0) (refused OtherBlocks)) (refused OtherBlocks)

-- 12, 13, 3, 14, tried in this order
unfoldable pub check_outcome : (w : ℕ) (s t : List ℕ) → Outcome
check_outcome w s t =
    pick (eqb (length s) (length t))
    (pick (eqb (get_or s 0 0) (get_or t 0 0))
    (pick (shaped w s) (pick (eqb (broken_rule w t) 0) (compared w s t) (refused NotSound)) (refused BeyondMending))
    (refused WrongLength))
    (refused WrongLength)

-- 12, then 13; the value is the page count
unfoldable pub mend_outcome : (w : ℕ) (s t : List ℕ) → Outcome
mend_outcome w s t =
    pick (eqb (length s) (length t)) (pick (shaped w s) (granted (pages_in w s)) (refused BeyondMending)) (refused WrongLength)

-- a refused target stays as it was
unfoldable pub mended : (w : ℕ) (s t : List ℕ) → List ℕ
mended w s t = pick (eqb (mend_outcome w s t).number 0) (mended_copy w s) t
