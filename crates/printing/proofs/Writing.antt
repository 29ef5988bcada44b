-- Text written piece by piece.
use mathlib.Core.Path.{◌≡◌, refl, sym, ◌∙◌, ap}
use mathlib.Core.List.{List, [], ◌∷◌, ◌++◌, append_assoc}
use Prim.Native.Nat.{ℕ, zero, suc, ◌+◌, ◌-◌, ◌/◌, ◌%◌, ◌≤◌, ◌<◌}
use native.Mathlib.Numerals.{add-one}
use native.Mathlib.Nat.{add-zero}
use native.Mathlib.Omega.{arith}
use lib.ListN.{length, get_or, drop, set, length-append}
use lib.Seq.{sets, drop-cons, drop-length}
use Rattle.printing.specs.Text.{ten_to, digits, places, decimal, phrase, line, pair_line, lines_of, written, Prints}

sets_append : (s : List ℕ) (n : ℕ) (xs ys : List ℕ) → sets s n (xs ++ ys) ≡ sets (sets s n xs) (n + length xs) ys
sets_append s n [] ys = rw (add-zero n)
sets_append s n (x ∷ xs) ys =
    let e : suc n + length xs ≡ n + suc (length xs) = omega arith in
    sets_append (set s n x) (suc n) xs ys ∙ ap (λ (m : ℕ). sets (sets (set s n x) (suc n) xs) m ys) e

pub written_none : (s : List ℕ) (n : ℕ) → written s n [] ≡ s
unfolding written
written_none s n = refl

pub written_append : (s : List ℕ) (n : ℕ) (xs ys : List ℕ) → written s n (xs ++ ys) ≡ written (written s n xs) (n + length xs) ys
unfolding written
written_append s n xs ys = sets_append s n xs ys

newline_written : (s : List ℕ) (n : ℕ) (xs : List ℕ) → written s n (xs ++ (10 ∷ [])) ≡ set (written s n xs) (n + length xs) 10
unfolding written
newline_written s n xs = sets_append s n xs (10 ∷ [])

-- one byte more of a text
pub text_more : (s t text : List ℕ) (n i b : ℕ) → i < length text → b ≡ get_or text i 0 → t ≡ set s (n + i) b →
    written t (n + (i + 1)) (drop (i + 1) text) ≡ written s (n + i) (drop i text)
unfolding written
text_more s t text n i b h e d =
    let z : n + (i + 1) ≡ suc (n + i) = omega arith in
    rw (drop-cons text i 0 h, d, e, z, add-one i)

pub text-done : (s t text : List ℕ) (n i : ℕ) → i ≤ length text → length text ≤ i → written t (n + i) (drop i text) ≡ s → t ≡ s
unfolding written
text-done s t text n i h l e =
    let d : i ≡ length text = omega arith in
    sym (rw (d, drop-length text)) ∙ e

-- a number digit by digit
pub decimal-begun : (s : List ℕ) (n v k : ℕ) → k ≡ places v → written s n (digits v k) ≡ written s n (decimal v)
unfolding decimal
decimal-begun s n v k e = rw e

pub digit_more : (s t : List ℕ) (n v k b : ℕ) → 0 < k → b ≡ 48 + v / ten_to (k - 1) % 10 → t ≡ set s n b →
    written t (n + 1) (digits v (k - 1)) ≡ written s n (digits v k)
unfolding written digits
digit_more s t n v zero b h e d = absurd (omega arith)
digit_more s t n v (suc k) b h e d = let z : suc k - 1 ≡ k = omega arith in rw (add-one n, d, e, z)

pub digits-done : (s t : List ℕ) (n v k : ℕ) → k ≡ 0 → written t n (digits v k) ≡ s → t ≡ s
unfolding written digits
digits-done s t n v k z e = sym (rw z) ∙ e

-- a word and then a number, and then a newline
module _ (s t u word : List ℕ) (n v a r : ℕ) where
  pub phrase_does : (a ≡ n + length word) × (t ≡ written s n word) → (r ≡ a + length (decimal v)) × (u ≡ written t a (decimal v)) × (r ≤ a + 10) →
      (r ≡ n + length (phrase word v)) × (u ≡ written s n (phrase word v)) × (r ≤ n + length word + 10)
  unfolding phrase
  phrase_does (e, f) (g, h, l) = (
    rw (length-append word (decimal v)) (omega (arith, e, g)),
    h ∙ rw (e, f) (sym (written_append s n word (decimal v))),
    omega (arith, e, l),
  )

  pub line_does : (a ≡ n + length (phrase word v)) × (t ≡ written s n (phrase word v)) × (a ≤ n + length word + 10) → u ≡ set t a 10 → r ≡ a + 1 →
      (r ≡ n + length (line word v)) × (u ≡ written s n (line word v)) × (r ≤ n + length word + 11)
  unfolding line
  line_does (e, f, l) g h = (
    rw (length-append (phrase word v) (10 ∷ [])) (omega (arith, e, h)),
    g ∙ rw (e, f) (sym (newline_written s n (phrase word v))),
    omega (arith, h, l),
  )

-- ---- one text after another

pub prints_then : (s t u : List ℕ) (n a r : ℕ) (x y : List ℕ) → Prints s t n a x → Prints t u a r y → Prints s u n r (x ++ y)
prints_then s t u n a r x y (e, f) (g, h) = (
  rw (length-append x y) (omega (arith, e, g)),
  h ∙ rw (e, f) (sym (written_append s n x y)),
)

pub prints_none : (s : List ℕ) (n : ℕ) → Prints s s n n []
prints_none s n = (sym (add-zero n), sym (written_none s n))

module _ (s t u first second : List ℕ) (n x y a r : ℕ) where
  pub pair_does : (a ≡ n + length (phrase first x)) × (t ≡ written s n (phrase first x)) × (a ≤ n + length first + 10) →
      (r ≡ a + length (line second y)) × (u ≡ written t a (line second y)) × (r ≤ a + length second + 11) →
      Prints s u n r (pair_line first x second y)
  unfolding pair_line
  pair_does (e, f, _) (g, h, _) = prints_then s t u n a r (phrase first x) (line second y) (e, f) (g, h)

-- the lines of two lists in a row
pub lines_append : {A : Type 0} (f : A → List ℕ) (xs ys : List A) → lines_of f (xs ++ ys) ≡ lines_of f xs ++ lines_of f ys
lines_append f [] ys = refl
lines_append f (x ∷ xs) ys = rw (lines_append f xs ys) (sym (append_assoc (f x) (lines_of f xs) (lines_of f ys)))
