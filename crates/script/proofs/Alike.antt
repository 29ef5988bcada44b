-- On sound bytes a script is served as on the state that they show.
use mathlib.Core.Path.{◌≡◌, refl, sym, ◌∙◌, ap}
use mathlib.Core.List.{List, [], ◌∷◌}
use mathlib.Core.Option.{Option, none, some}
use Prim.Native.Nat.{ℕ, zero, suc, ◌≤◌, ◌<◌}
use native.Mathlib.Omega.{arith}
use lib.ListN.{length}
use Rattle.base.specs.Tests.{pick}
use Rattle.words.specs.Word.{Bytes}
use Rattle.model.specs.State.{State}
use Rattle.model.specs.Calls.{Call, fresh}
use Rattle.records.specs.Header.{header_at}
use Rattle.format.specs.Format.{shortest, too_long, format_outcome, formatted}
use Rattle.rules.specs.Fields.{run, next as next_of}
use Rattle.rules.specs.Read.{trail, heads_of, with_lengths, read_fields}
use Rattle.rules.specs.Rules.{free_in}
use Rattle.rules.specs.Bytes.{pages_in, image_of, fields_of, broken_rule, read}
use Rattle.rules.proofs.Rules.{rule6-says}
use Rattle.drawing.proofs.Laws.{none-broken, claims as laws-of}
use Rattle.demands.specs.Demands.{Demands}
use Rattle.demands.proofs.Demands.{all-demands}
use Rattle.script_lines.specs.Lines.{lines, request}
use Rattle.printing.specs.Text.{line, written}
use Rattle.script_replies.specs.Replies.{pool_word, outcome_line, format_line, reply_line}
use Rattle.script_summary.specs.Summary.{free_runs, summary_of}
use Rattle.script.specs.Script.{pages, reply, next, replies, final, summary, exchange, transcript}
use Rattle.script.specs.Mirror.{reply_on, next_on, replies_on, final_on, text_on, exchange_on, printout_on}

-- ---- the lines

-- a pool and the state that it shows
pub record Shows (s : List ℕ) (m : State) : Type 0 where
  pub bytes : Bytes s
  pub sound : broken_rule 2 s ≡ 0
  pub state : read 2 s ≡ m

module _ (s : List ℕ) (m : State) (S : Shows s m) where
  demands : Demands 2 s
  demands = all-demands 2 (omega arith) (omega arith) s S.bytes

  reply-alike : (x : Option Call) → reply_on s x ≡ reply m x
  unfolding reply_on reply
  reply-alike none = refl
  reply-alike (some call) = rw (← S.state) (ap (reply_line call) ((demands.demand2 S.sound).answer call))

  next-alike : (x : Option Call) → Shows (next_on s x) (next m x)
  unfolding next_on next
  next-alike none = S
  next-alike (some call) = record {
    bytes = demands.demand1.bytes-kept call;
    sound = (demands.demand2 S.sound).sound-after call;
    state = rw (← S.state) ((demands.demand2 S.sound).state call);
  }

replies-alike : (s : List ℕ) (m : State) → Shows s m → (ls : List (List ℕ)) → replies_on s ls ≡ replies m ls
replies-alike s m S [] = refl
replies-alike s m S (l ∷ ls) = rw (reply-alike s m S (request l), replies-alike (next_on s (request l)) (next m (request l)) (next-alike s m S (request l)) ls)

final-alike : (s : List ℕ) (m : State) → Shows s m → (ls : List (List ℕ)) → Shows (final_on s ls) (final m ls)
unfolding final_on
final-alike s m S [] = S
final-alike s m S (l ∷ ls) = final-alike (next_on s (request l)) (next m (request l)) (next-alike s m S (request l)) ls

-- ---- the last line

runs-counted : (len nx : ℕ → ℕ) (k p : ℕ) → length (with_lengths len (trail nx k p)) ≡ k
runs-counted len nx zero p = refl
runs-counted len nx (suc k) p = ap suc (runs-counted len nx k (nx p))

free-alike : (s : List ℕ) → broken_rule 2 s ≡ 0 → (header_at s).free_pages ≡ free_in (read 2 s).page (read 2 s).size
unfolding fields_of image_of read read_fields
free-alike s e = (rule6-says (fields_of 2 s) (pages_in 2 s) (none-broken 2 s e).1.six).0

runs-alike : (s : List ℕ) → free_runs 2 s ≡ length (read 2 s).runs
unfolding free_runs read read_fields heads_of
runs-alike s = sym (runs-counted (run (fields_of 2 s)) (next_of (fields_of 2 s)) _ _)

summary-alike : (s : List ℕ) (m : State) → Shows s m → summary_of 2 s ≡ summary m
unfolding summary_of summary
summary-alike s m S = rw (← S.state) (rw (← runs-alike s, ← free-alike s S.sound))

exchange-alike : (s : List ℕ) (m : State) → Shows s m → (ls : List (List ℕ)) → exchange_on s ls ≡ exchange m ls
unfolding exchange_on exchange text_on final_on
exchange-alike s m S ls = rw (replies-alike s m S ls, summary-alike _ _ (final-alike s m S ls))

-- ---- a fresh pool

module _ (s : List ℕ) (b : Bytes s) (l : length s ≡ 49496) where
  first-line : format_line (format_outcome 2 (length s)) ≡ line pool_word pages
  unfolding format_line outcome_line format_outcome pick
  first-line = rw l

  shows-fresh : Shows (formatted 2 s) (fresh pages)
  shows-fresh =
      let L = laws-of 2 (omega arith) (omega arith) s b in
      let low : shortest 2 ≤ length s = omega (arith, l) in
      let high : length s < too_long 2 = omega (arith, l) in
      let twelve : pages_in 2 s ≡ pages = rw l in
      record {
        bytes = L.format_bytes low high;
        sound = L.format_sound low high;
        state = L.format_read low high ∙ ap fresh twelve;
      }

  pub printout-alike : (input : List ℕ) → printout_on s input ≡ transcript input
  unfolding printout_on transcript
  printout-alike input = rw (first-line, exchange-alike _ _ shows-fresh (lines input))

  pub transcript_does : (u v input : List ℕ) (r : ℕ) → (r ≡ length (printout_on s input)) × (v ≡ written u 0 (printout_on s input)) →
      (r ≡ length (transcript input)) × (v ≡ written u 0 (transcript input))
  transcript_does u v input r p = rw (← printout-alike input) p
