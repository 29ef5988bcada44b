-- How long the lines of a printout are.
use mathlib.Core.Path.{◌≡◌, refl, sym, ◌∙◌}
use mathlib.Core.Bool.{Bool, true, false, cond}
use mathlib.Core.List.{List, [], ◌∷◌}
use mathlib.Core.Option.{Option, none, some}
use Prim.Native.Nat.{ℕ, suc, ◌+◌, ◌*◌, ◌≤◌}
use native.Mathlib.Omega.{arith}
use lib.Dec.{eqb}
use lib.ListN.{length, length-append}
use Rattle.base.specs.Tests.{pick}
use Rattle.base.proofs.AllBelow.{pick_no}
use Rattle.answers.specs.Outcome.{Outcome}
use Rattle.answers.specs.declared.Refusal.TheVariants.{Unreadable}
use Rattle.model.specs.State.{State}
use Rattle.model.specs.Calls.{Call, Alloc, Free, step}
use Rattle.demands.specs.Calls.{outcome, answered}
use Rattle.script_lines.specs.Lines.{before, lines, begins, request}
use Rattle.script_lines.proofs.Words.{begins-long}
use Rattle.printing.specs.Text.{digits, places, decimal, phrase, line}
use Rattle.printing.proofs.Digits.{decimal-few}
use Rattle.script_replies.specs.Replies.{pool_word, at_word, back_word, no_word, refusal_line, outcome_line, format_line, alloc_line, free_line, reply_line}
use Rattle.script_summary.specs.Summary.{free_word, runs_word, summary_line}
use Rattle.rules.specs.Rules.{free_in}
use Rattle.script.specs.Script.{reply, replies, next, final, joined, summary, exchange}
use Rattle.script.specs.Mirror.{reply_on, next_on, replies_on, text_on}

pub phrase-few : (word : List ℕ) (v : ℕ) → length (phrase word v) ≤ length word + 10
unfolding phrase
phrase-few word v = omega (arith, length-append word (decimal v), (decimal-few v).1)

pub line-few : (word : List ℕ) (v : ℕ) → length (line word v) ≤ length word + 11
unfolding line
line-few word v = omega (arith, length-append (phrase word v) (10 ∷ []), phrase-few word v)

-- ---- a line's answer against the line

-- no word is longer than `pool ` and `back `
outcome-few : (word : List ℕ) (o : Outcome) → length word ≤ 5 → length (outcome_line word o) ≤ 16
unfolding outcome_line pick
outcome-few word o h = go (eqb o.number 0)
  where
    go : (b : Bool) → length (pick b (line word o.value) (line no_word o.number)) ≤ 16
    go true = omega (arith, h, line-few word o.value)
    go false = omega (arith, line-few no_word o.number)

pub format_few : (o : Outcome) → length (format_line o) ≤ 16
unfolding format_line
format_few o = outcome-few pool_word o (omega arith)

reply-few : (call : Call) (o : Outcome) → length (reply_line call o) ≤ 16
unfolding reply_line alloc_line free_line
reply-few (Alloc n) o = outcome-few at_word o (omega arith)
reply-few (Free off) o = outcome-few back_word o (omega arith)

unreadable_few : length (refusal_line Unreadable) ≡ 5
unfolding refusal_line line phrase decimal digits places pick
unreadable_few = refl

-- a call takes a word, a space and more
asked-long : (l : List ℕ) (call : Call) → request l ≡ some call → 5 ≤ length l
unfolding request
asked-long l call e = go (begins l 116 97 107 101) refl (begins l 103 105 118 101) refl
  where
    go : (t : Bool) → begins l 116 97 107 101 ≡ t → (g : Bool) → begins l 103 105 118 101 ≡ g → 5 ≤ length l
    go true x g y = begins-long l 116 97 107 101 true (sym x) refl
    go false x true y = begins-long l 103 105 118 101 true (sym y) refl
    go false x false y =
        let none-asked : request l ≡ none = pick_no _ _ _ x ∙ pick_no _ _ _ y in
        let z : ◌≡◌ {A = ℕ} 0 1 = cc (none-asked, e) in
        absurd (omega arith)

-- an answer is at most five times as long as the line with its newline
answer-few : (l : List ℕ) (f : Option Call → List ℕ) → f none ≡ refusal_line Unreadable → ((call : Call) → length (f (some call)) ≤ 16) →
    length (f (request l)) ≤ 5 * (length l + 1)
answer-few l f h g = go (request l) refl
  where
    go : (x : Option Call) → request l ≡ x → length (f (request l)) ≤ 5 * (length l + 1)
    go none e = rw (e, h) (omega (arith, unreadable_few))
    go (some call) e = rw e (omega (arith, g call, asked-long l call e))

pub reply-fits : (m : State) (l : List ℕ) → length (reply m (request l)) ≤ 5 * (length l + 1)
unfolding reply
reply-fits m l = answer-few l (reply m) refl (λ call. reply-few call (outcome (step m call).answer))

pub reply_on-fits : (s l : List ℕ) → length (reply_on s (request l)) ≤ 5 * (length l + 1)
unfolding reply_on
reply_on-fits s l = answer-few l (reply_on s) refl (λ call. reply-few call (answered 2 s call))

-- ---- all lines

-- the bytes of lines with their newlines
abbrev weight : List (List ℕ) → ℕ
weight [] = 0
weight (l ∷ ls) = length l + 1 + weight ls

-- a last line may lack its newline
weight_lines : (s : List ℕ) → weight (lines s) ≤ length s + 1
weight_lines [] = omega arith
weight_lines (b ∷ s) = go (eqb b 10) (lines s) (weight_lines s)
  where
    go : (t : Bool) (ls : List (List ℕ)) → weight ls ≤ length s + 1 → weight (cond t ([] ∷ ls) (before b ls)) ≤ suc (length s) + 1
    go true ls h = omega (arith, h)
    go false [] h = omega arith
    go false (l ∷ ls) h = omega (arith, h)

replies-fit : (m : State) (ls : List (List ℕ)) → length (joined (replies m ls)) ≤ 5 * weight ls
replies-fit m [] = omega arith
replies-fit m (l ∷ ls) =
    omega (arith, length-append (reply m (request l)) (joined (replies (next m (request l)) ls)), reply-fits m l, replies-fit (next m (request l)) ls)

replies_on-fit : (s : List ℕ) (ls : List (List ℕ)) → length (joined (replies_on s ls)) ≤ 5 * weight ls
replies_on-fit s [] = omega arith
replies_on-fit s (l ∷ ls) =
    omega (arith, length-append (reply_on s (request l)) (joined (replies_on (next_on s (request l)) ls)), reply_on-fits s l, replies_on-fit (next_on s (request l)) ls)

pub text-fits : (s input : List ℕ) → length (text_on s (lines input)) ≤ 5 * (length input + 1)
unfolding text_on
text-fits s input = omega (arith, replies_on-fit s (lines input), weight_lines input)

pub summary-few : (m : State) → length (summary m) ≤ 32
unfolding summary summary_line
summary-few m =
    let free : ℕ = free_in m.page m.size in
    let runs : ℕ = length m.runs in
    omega (arith, length-append (phrase free_word free) (line runs_word runs), phrase-few free_word free, line-few runs_word runs)

pub exchange-fits : (m : State) (input : List ℕ) → length (exchange m (lines input)) ≤ 5 * (length input + 1) + 32
unfolding exchange
exchange-fits m input =
    omega (
      arith,
      length-append (joined (replies m (lines input))) (summary (final m (lines input))),
      replies-fit m (lines input),
      weight_lines input,
      summary-few (final m (lines input)),
    )
