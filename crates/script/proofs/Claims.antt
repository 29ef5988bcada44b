-- The claims of `specs/Claim.antt`.
use mathlib.Core.Path.{◌≡◌, refl, ap}
use mathlib.Core.Bool.{Bool, true, false}
use mathlib.Core.List.{List, [], ◌∷◌}
use Prim.Native.Nat.{ℕ, zero, suc, ◌≤◌, ◌<◌}
use native.Mathlib.Omega.{arith}
use lib.Dec.{leb}
use lib.ListN.{length, get_or, take, length-append}
use borrow.Author.Tests.{leb-true, le-leb, lt-leb}
use Rattle.base.specs.Tests.{pick}
use Rattle.base.proofs.AllBelow.{pick_yes, pick_no}
use Rattle.answers.specs.declared.Refusal.TheVariants.{ScriptTooLong}
use Rattle.model.specs.State.{State}
use Rattle.model.specs.Calls.{fresh}
use Rattle.script_lines.specs.Lines.{lines, request}
use Rattle.printing.specs.Text.{line, written, Prints}
use Rattle.script_replies.specs.Replies.{pool_word, no_word, refusal_line}
use Rattle.script.specs.Script.{longest, pages, reply, next, replies, final, exchange, transcript, printout}
use Rattle.script.specs.Claim.{Claims}
use Rattle.script.proofs.Numbers.{reads_back}
use Rattle.script.proofs.Room.{line-few, exchange-fits}

line-by-line : (m : State) (ls : List (List ℕ)) (k : ℕ) → k < length ls → get_or (replies m ls) k [] ≡ reply (final m (take k ls)) (request (get_or ls k []))
line-by-line m [] k h = absurd (omega arith)
line-by-line m (l ∷ ls) zero h = refl
line-by-line m (l ∷ ls) (suc k) h = line-by-line (next m (request l)) ls k (omega arith)

one_each : (m : State) (ls : List (List ℕ)) → length (replies m ls) ≡ length ls
one_each m [] = refl
one_each m (l ∷ ls) = ap suc (one_each (next m (request l)) ls)

refusal_few : length (refusal_line ScriptTooLong) ≤ 14
unfolding refusal_line
refusal_few = line-few no_word 9

fits : (input : List ℕ) → length (printout input) ≤ 65536
unfolding printout transcript pick
fits input = go (leb (length input) longest) refl
  where
    go : (b : Bool) → leb (length input) longest ≡ b →
        length (pick b (transcript input) (refusal_line ScriptTooLong)) ≤ 65536
    go true e =
        let fresh-exchange : List ℕ = exchange (fresh pages) (lines input) in
        omega (arith, length-append (line pool_word pages) fresh-exchange, line-few pool_word pages, exchange-fits (fresh pages) input, leb-true (length input) longest e)
    go false e = omega (arith, refusal_few)

pub claims : Claims
claims = record { line-by-line = line-by-line; one_each = one_each; reads_back = reads_back; fits = fits }

-- ---- what serving makes of it

module _ (u v input : List ℕ) (r : ℕ) where
  -- the whole printout is written
  abbrev pub Whole : Type 0
  Whole = (r ≡ length (printout input)) × (v ≡ written u 0 (printout input)) × (r ≤ 65536)

  whole : (text : List ℕ) → printout input ≡ text → (r ≡ length text) × (v ≡ written u 0 text) → Whole
  whole text e (a, b) = let n : r ≡ length (printout input) = rw e a in (n, rw e b, omega (arith, n, fits input))

  pub whole-short : length input ≤ longest → (r ≡ length (transcript input)) × (v ≡ written u 0 (transcript input)) → Whole
  unfolding printout
  whole-short h p = whole (transcript input) (pick_yes _ _ _ (le-leb (length input) longest h)) p

  pub whole_long : longest < length input → Prints u v 0 r (refusal_line ScriptTooLong) → Whole
  unfolding printout
  whole_long h (a, b) = whole (refusal_line ScriptTooLong) (pick_no _ _ _ (lt-leb (length input) longest h)) (omega (arith, a), b)
