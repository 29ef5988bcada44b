-- A script served line by line.
use mathlib.Core.Path.{◌≡◌, refl, sym, ◌∙◌}
use mathlib.Core.List.{List, [], ◌∷◌, ◌++◌}
use mathlib.Core.Option.{Option, none, some}
use Prim.Native.Nat.{ℕ, ◌+◌, ◌*◌, ◌≤◌}
use native.Mathlib.Omega.{arith}
use lib.ListN.{length, length-append}
use Rattle.answers.specs.Outcome.{Outcome}
use Rattle.answers.specs.declared.Refusal.TheVariants.{Unreadable}
use Rattle.model.specs.Calls.{Call, Alloc, Free}
use Rattle.demands.specs.Calls.{answered, after}
use Rattle.format.specs.Format.{format_outcome, formatted}
use Rattle.script_lines.specs.Lines.{lines, request}
use Rattle.printing.specs.Text.{written, Prints}
use Rattle.printing.proofs.Writing.{written_none, written_append}
use Rattle.script_replies.specs.Replies.{refusal_line, format_line, alloc_line, free_line, reply_line}
use Rattle.script_summary.specs.Summary.{summary_of}
use Rattle.script.specs.Script.{joined}
use Rattle.script.specs.Mirror.{reply_on, next_on, Serves, replies_on, final_on, text_on, exchange_on, printout_on}
use Rattle.script.proofs.Room.{format_few}

-- ---- one line

module _ (s t u v : List ℕ) (n m : ℕ) where
  module _ (o : Outcome) where
    pub take-served : (size : ℕ) → o ≡ answered 2 s (Alloc size) → Prints u v n m (alloc_line o) → t ≡ after 2 s (Alloc size) →
        Serves s t u v n m (some (Alloc size))
    unfolding reply_on next_on reply_line
    take-served size e p f = rw (← e) (p.0, p.1, f)

    pub give_served : (off : ℕ) → o ≡ answered 2 s (Free off) → Prints u v n m (free_line o) → t ≡ after 2 s (Free off) →
        Serves s t u v n m (some (Free off))
    unfolding reply_on next_on reply_line
    give_served off e p f = rw (← e) (p.0, p.1, f)

  pub none-served : Prints u v n m (refusal_line Unreadable) → t ≡ s → Serves s t u v n m none
  unfolding reply_on next_on
  none-served p f = (p.0, p.1, f)

  pub served_as : (x y : Option Call) → x ≡ y → Serves s t u v n m x → Serves s t u v n m y
  served_as x y e p = rw (← e) p

-- ---- all lines

-- what is left to serve and to print, from the pool s and place n of the slice u on, makes the whole
abbrev pub Left : List ℕ → List ℕ → ℕ → List (List ℕ) → List ℕ → List ℕ → ℕ → List (List ℕ) → Type 0
Left s u n ls s₀ u₀ n₀ ls₀ =
    (n + length (text_on s ls) ≡ n₀ + length (text_on s₀ ls₀)) ×
    (written u n (text_on s ls) ≡ written u₀ n₀ (text_on s₀ ls₀)) ×
    (final_on s ls ≡ final_on s₀ ls₀)

module _ (s₀ u₀ : List ℕ) (n₀ : ℕ) (ls₀ : List (List ℕ)) where
  pub left-all : Left s₀ u₀ n₀ ls₀ s₀ u₀ n₀ ls₀
  left-all = (refl, refl, refl)

  module _ (s u : List ℕ) (n : ℕ) where
    pub left_as : (ls ls' : List (List ℕ)) → ls ≡ ls' → Left s u n ls s₀ u₀ n₀ ls₀ → Left s u n ls' s₀ u₀ n₀ ls₀
    left_as ls ls' d p = rw (← d) p

    pub left_more : (t v : List ℕ) (m : ℕ) (l : List ℕ) (ls : List (List ℕ)) → Serves s t u v n m (request l) →
        Left s u n (l ∷ ls) s₀ u₀ n₀ ls₀ → Left t v m ls s₀ u₀ n₀ ls₀
    unfolding text_on final_on
    left_more t v m l ls (e, f, g) (a, b, c) =
        let this : List ℕ = reply_on s (request l) in
        let rest : List ℕ = joined (replies_on (next_on s (request l)) ls) in
        rw g (
          omega (arith, e, a, length-append this rest),
          rw (e, f) (sym (written_append u n this rest) ∙ b),
          c,
        )

    pub left-none : Left s u n [] s₀ u₀ n₀ ls₀ → (n ≡ n₀ + length (text_on s₀ ls₀)) × (u ≡ written u₀ n₀ (text_on s₀ ls₀)) × (s ≡ final_on s₀ ls₀)
    unfolding text_on final_on
    left-none (a, b, c) = (omega (arith, a), sym (written_none u n) ∙ b, c)

-- ---- the first line, the lines, the last line

pub first_does : (u v : List ℕ) (m : ℕ) (o p : Outcome) → o ≡ p → Prints u v 0 m (format_line o) →
    (m ≡ length (format_line p)) × (v ≡ written u 0 (format_line p)) × (m ≤ 16)
first_does u v m o p e (a, b) = rw (← e) (omega (arith, a), b, omega (arith, a, format_few o))

pub all_do : (s u v x y input : List ℕ) (a b r : ℕ) (f t : List ℕ) →
    (a ≡ length (format_line (format_outcome 2 (length s)))) × (v ≡ written u 0 (format_line (format_outcome 2 (length s)))) × (f ≡ formatted 2 s) × (a ≤ 16) →
    (b ≡ a + length (text_on f (lines input))) × (x ≡ written v a (text_on f (lines input))) × (t ≡ final_on f (lines input)) × (b ≤ a + 5 * (length input + 1)) →
    (r ≡ b + length (summary_of 2 t)) × (y ≡ written x b (summary_of 2 t)) →
    (r ≡ length (printout_on s input)) × (y ≡ written u 0 (printout_on s input))
unfolding printout_on exchange_on
all_do s u v x y input a b r f t (p, q, g, _) (p', q', g', _) (p'', q'') =
    let first : List ℕ = format_line (format_outcome 2 (length s)) in
    let text : List ℕ = text_on (formatted 2 s) (lines input) in
    let last : List ℕ = summary_of 2 (final_on (formatted 2 s) (lines input)) in
    let n₁ : b ≡ a + length text = rw (← g) p' in
    let w₁ : x ≡ written v a text = rw (← g) q' in
    let n₂ : r ≡ b + length last = rw (← g, ← g') p'' in
    let w₂ : y ≡ written x b last = rw (← g, ← g') q'' in
    let both : written x b last ≡ written v a (text ++ last) = rw (n₁, w₁) (sym (written_append v a text last)) in
    let at : a ≡ 0 + length first = omega (arith, p) in
    let all : written v a (text ++ last) ≡ written u 0 (first ++ (text ++ last)) =
    rw (at, q) (sym (written_append u 0 first (text ++ last))) in (
      omega (arith, p, n₁, n₂, length-append first (text ++ last), length-append text last),
      w₂ ∙ both ∙ all,
    )
