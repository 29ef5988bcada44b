-- Rule 2 for a whole run, as the code tries it: by the words of the pages after the first. `proofs/Whole.antt` holds it against the rules.
use Rattle.std.specs.Prelude.{◌≡◌, ◌≢◌, ℕ, ◌+◌, ◌-◌, ◌*◌, ◌≤◌, ◌<◌, Bool, true, false, List, [], ◌∷◌, eqb, leb, ltb}
use Rattle.base.specs.Tests.{pick, all_of, all_below}
use Rattle.words.specs.Word.{word}
use Rattle.records.specs.Layout.{no_page, links_place}
use Rattle.records.specs.declared.Links.{Links}
use Rattle.rules.specs.Fields.{Fields, kind, map}
use Rattle.rules.specs.Rules.{ends_free, ends_taken, rule2_at}
use Rattle.rules.specs.Bytes.{fields_of}

-- page p has the links of the word v and no map
unfoldable pub plain_at : (w : ℕ) (s : List ℕ) (v p : ℕ) → Bool
plain_at w s v p = pick (eqb (word s (links_place w p)) v) (eqb (map (fields_of w s) p) 0) false

-- so have the m pages from p on
unfoldable pub plain_from : (w : ℕ) (s : List ℕ) (v p m : ℕ) → Bool
plain_from w s v p m = all_below (λ i. plain_at w s v (p + i)) m

-- page p, with the links l, can begin a run of the n pages: class and map are 0, the run has a page and ends among them
unfoldable pub begins : (w : ℕ) (s : List ℕ) (n p : ℕ) (l : Links) → Bool
begins w s n p l = all_of (eqb l.class 0 ∷ eqb (map (fields_of w s) p) 0 ∷ ltb 0 l.run ∷ leb (p + l.run) n ∷ [])

-- the last of the k free pages from p on leads back to p, where there are two or more
unfoldable pub last_plain : (w : ℕ) (s : List ℕ) (p k : ℕ) → Bool
last_plain w s p k = pick (ltb 1 k) (plain_at w s (2198989701120 + 512 * p) (p + k - 1)) true

unfoldable pub free_inside : (w : ℕ) (s : List ℕ) (p k : ℕ) → Bool
free_inside w s p k = pick (last_plain w s p k) (plain_from w s 2199023255040 (p + 1) (k - 2)) false

unfoldable pub free_rest : (w : ℕ) (s : List ℕ) (n p k : ℕ) → Bool
free_rest w s n p k = pick (ends_free (fields_of w s) n (p + k)) (free_inside w s p k) false

unfoldable pub free_whole : (w : ℕ) (s : List ℕ) (n p : ℕ) (l : Links) → Bool
free_whole w s n p l = pick (begins w s n p l) (free_rest w s n p l.run) false

unfoldable pub taken_rest : (w : ℕ) (s : List ℕ) (n p k : ℕ) → Bool
taken_rest w s n p k =
    pick (ends_taken (fields_of w s) n (p + k)) (plain_from w s 9223374235878030848 (p + 1) (k - 1)) false

unfoldable pub taken_whole : (w : ℕ) (s : List ℕ) (n p : ℕ) (l : Links) → Bool
taken_whole w s n p l =
    pick (all_of (begins w s n p l ∷ eqb l.next.0 no_page ∷ eqb l.prev.0 no_page ∷ [])) (taken_rest w s n p l.run) false

-- the k pages from p on keep rule 2, and those after the first are of kind `inner`
pub record Kept (v : Fields) (n p k inner : ℕ) : Type 0 where
  pub some : 0 < k
  pub within : p + k ≤ n
  pub first : rule2_at v n p ≡ true
  pub rest : (j : ℕ) → p < j → j < p + k → (rule2_at v n j ≡ true) × (kind v j ≡ inner)

-- no page inside a run stands at p, unless rule 2 is broken there: where a run or a class page ends, and at the start
abbrev pub Border : (v : Fields) (n p : ℕ) → Type 0
Border v n p = rule2_at v n p ≡ true → (kind v p ≢ 0) × (kind v p ≢ 4)
