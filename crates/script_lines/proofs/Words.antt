-- What a line asks for, from its first five bytes.
use mathlib.Core.Path.{◌≡◌, refl, sym, ◌∙◌, ap}
use mathlib.Core.Bool.{Bool, true, false}
use mathlib.Core.List.{List}
use mathlib.Core.Option.{Option, none}
use Prim.Native.Nat.{ℕ, ◌-◌, ◌≤◌}
use native.Mathlib.Omega.{arith}
use lib.Dec.{leb}
use lib.ListN.{length, get_or, take, drop, length-drop, get_or-eq_default}
use lib.Seq.{take_all}
use borrow.Author.Tests.{eqb-true, leb-true, leb-false}
use Rattle.base.proofs.AllBelow.{each_of}
use Rattle.base.proofs.Tests.{pick_on, pick-off}
use Rattle.model.specs.Calls.{Call, Alloc, Free}
use Rattle.script_lines.specs.Lines.{begins, call_with, request}

-- a line that begins with a word and a space has what follows them
pub begins-long : (line : List ℕ) (a b c d : ℕ) (u : Bool) → u ≡ begins line a b c d → u ≡ true → 5 ≤ length line
unfolding begins
begins-long line a b c d u e t = go (leb 5 (length line)) refl
  where
    space : get_or line 4 0 ≡ 32
    space = eqb-true (get_or line 4 0) 32 (each_of _ (sym e ∙ t)).1.1.1.1.0

    go : (v : Bool) → leb 5 (length line) ≡ v → 5 ≤ length line
    go true h = leb-true 5 (length line) h
    go false h = absurd (omega (arith, space, get_or-eq_default line 0 {n = 4} (omega (arith, leb-false 5 (length line) h))))

module _ (line : List ℕ) (x : Option Call) (u : Bool) (e : u ≡ begins line 116 97 107 101) where
  rest : take (length line - 5) (drop 5 line) ≡ drop 5 line
  rest = take_all (length line - 5) (drop 5 line) (simp length-drop (omega arith))

  pub asks_take : u ≡ true → x ≡ call_with Alloc (take (length line - 5) (drop 5 line)) → x ≡ request line
  unfolding request
  asks_take t d = pick_on _ _ _ u e t (d ∙ ap (call_with Alloc) rest)

  module _ (v : Bool) (f : v ≡ begins line 103 105 118 101) (no : u ≡ false) where
    pub asks_give : v ≡ true → x ≡ call_with Free (take (length line - 5) (drop 5 line)) → x ≡ request line
    unfolding request
    asks_give t d = pick-off _ _ _ u e no (pick_on _ _ _ v f t (d ∙ ap (call_with Free) rest))

    pub asks_nothing : v ≡ false → x ≡ none → x ≡ request line
    unfolding request
    asks_nothing t d = pick-off _ _ _ u e no (pick-off _ _ _ v f t d)
