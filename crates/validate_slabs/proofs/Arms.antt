-- The map of a class page, where it lies in the page and where in the record.
use mathlib.Core.Path.{◌≡◌, refl, ◌∙◌}
use mathlib.Core.Logic.{⊎_elim}
use mathlib.Core.Bool.{Bool, true, false, not}
use mathlib.Core.List.{List, [], ◌∷◌}
use Prim.Native.Nat.{ℕ, ◌+◌, ◌-◌, ◌/◌, ◌%◌, ◌^◌, ◌≤◌, ◌<◌}
use native.Mathlib.Omega.{arith}
use lib.Dec.{eqb, leb}
use lib.Pow.{pow_pos}
use borrow.Author.Tests.{lt-ltb, le-ltb, eqb-true, not-false}
use Rattle.base.specs.Tests.{pick, all_of, all_below}
use Rattle.base.specs.Search.{least, any}
use Rattle.base.proofs.Search.{any_false}
use Rattle.base.proofs.Cases.{lt?}
use Rattle.model.specs.Classes.{chunks, own}
use Rattle.rules.specs.Fields.{class, run, map}
use Rattle.rules.specs.Rules.{map_fits, class_with, class_page}
use Rattle.rules.specs.Bytes.{mark_at, image_of, fields_of}
use Rattle.classes.proofs.Numbers.{chunks_past, own-past}
use Rattle.validate_slabs.specs.Mirror.{map_holds}

-- ---- in the page

pub paged : (w : ℕ) (s : List ℕ) (p c x : ℕ) (a r : Bool) → c < 3 → a ≡ all_below (mark_at w s p c) (own c) → x ≡ map (fields_of w s) p → r ≡ pick a (eqb x 0) false → r ≡ map_holds w s p c
unfolding map_holds map_fits pick
paged w s p c x a r h e d q = q ∙ rw (e, d, lt-ltb c 3 h)

-- ---- in the record: the unit above the unused bits

unit_few : (c : ℕ) → c < 10 → eqb (9223372036854775808 / 2 ^ (chunks (c - 3 + 3) - 1)) (2 ^ (64 - chunks (c - 3 + 3))) ≡ true
unfolding any least chunks
unit_few c h =
    not-false _ (any_false (λ d. not (eqb (9223372036854775808 / 2 ^ (chunks (d - 3 + 3) - 1)) (2 ^ (64 - chunks (d - 3 + 3))))) 10 refl c h)

pub unit : (c n : ℕ) → 3 ≤ c → n ≡ chunks c → 9223372036854775808 / 2 ^ (n - 1) ≡ 2 ^ (64 - chunks c)
unit c n h e = rw e (⊎_elim few past (lt? c 10))
  where
    few : c < 10 → 9223372036854775808 / 2 ^ (chunks c - 1) ≡ 2 ^ (64 - chunks c)
    few l =
        let z : c - 3 + 3 ≡ c = omega arith in
        rw z at (eqb-true (9223372036854775808 / 2 ^ (chunks (c - 3 + 3) - 1)) (2 ^ (64 - chunks (c - 3 + 3))) (unit_few c l))

    past : 10 ≤ c → 9223372036854775808 / 2 ^ (chunks c - 1) ≡ 2 ^ (64 - chunks c)
    past l = rw (← chunks_past c (omega arith))

pub unit_some : (c n : ℕ) → 3 ≤ c → n ≡ chunks c → 0 < 9223372036854775808 / 2 ^ (n - 1)
unit_some c n h e = rw (unit c n h e) (pow_pos (64 - chunks c))

pub unused : (x c n : ℕ) → 3 ≤ c → n ≡ chunks c → eqb (x % (9223372036854775808 / 2 ^ (n - 1))) 0 ≡ map_fits x c
unfolding map_fits pick
unused x c n h e = rw (le-ltb c 3 h, unit c n h e)

pub recorded : (w : ℕ) (s : List ℕ) (p c x : ℕ) (r : Bool) → 3 ≤ c → x ≡ map (fields_of w s) p → r ≡ map_fits x c → r ≡ map_holds w s p c
unfolding map_holds all_below pick
recorded w s p c x r h e q = q ∙ rw (e, ← own-past c h)

-- ---- the page

module _ (w : ℕ) (s : List ℕ) (p : ℕ) where
  pub holds_page : (r : Bool) → r ≡ all_of (leb (class (fields_of w s) p) 8 ∷ eqb (run (fields_of w s) p) 0 ∷ map_holds w s p (class (fields_of w s) p) ∷ []) → r ≡ class_page (fields_of w s) p
  unfolding class_page class_with map_holds all_of pick fields_of image_of
  holds_page r q =
      q
      ∙ same (leb (class (fields_of w s) p) 8) (eqb (run (fields_of w s) p) 0) (all_below (mark_at w s p (class (fields_of w s) p)) (own (class (fields_of w s) p)))
      (map_fits (map (fields_of w s) p) (class (fields_of w s) p))
    where
      same : (a b m f : Bool) → pick a (pick b (pick (pick m f false) true false) false) false ≡ pick a (pick b (pick m (pick f true false) false) false) false
      same true true true f = refl
      same true true false f = refl
      same true false m f = refl
      same false b m f = refl
