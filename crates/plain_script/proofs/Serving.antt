-- A script served line by line on a plain state.
use mathlib.Core.Path.{◌≡◌, refl, sym, ap, ◌∙◌}
use mathlib.Core.Bool.{true}
use mathlib.Core.List.{List, [], ◌∷◌, ◌++◌}
use mathlib.Core.Option.{Option, none, some}
use Prim.Native.Nat.{ℕ, zero, suc, ◌+◌, ◌*◌, ◌≤◌}
use native.Mathlib.Omega.{arith}
use lib.Dec.{eqb, leb}
use lib.ListN.{length, length-append}
use borrow.Author.Tests.{eqb-true, eq-eqb, ne_eqb, le-leb}
use Rattle.base.specs.Tests.{pick}
use Rattle.base.specs.Count.{bit}
use Rattle.base.proofs.AllBelow.{each_of}
use Rattle.answers.specs.Outcome.{Outcome}
use Rattle.answers.specs.declared.Refusal.TheVariants.{Unreadable}
use Rattle.model.specs.State.{State}
use Rattle.model.specs.Calls.{Call, Alloc, Free, fresh}
use Rattle.rules.specs.Rules.{free_in}
use Rattle.script_lines.specs.Lines.{lines, request}
use Rattle.printing.specs.Text.{line, written, Prints}
use Rattle.printing.proofs.Writing.{written_none, written_append}
use Rattle.script_replies.specs.Replies.{pool_word, no_word, refusal_line, outcome_line, alloc_line, free_line, reply_line}
use Rattle.script_summary.specs.Summary.{summary_line}
use Rattle.script.specs.Script.{pages, reply, next, replies, final, joined, summary, exchange, transcript}
use Rattle.script.proofs.Room.{exchange-fits}
use Rattle.plain.specs.Table.{is_vacant, holds, run_of, read_runs}
use Rattle.plain.specs.Plain.{Plain, read_plain}
use Rattle.plain.specs.declared.Extent.{Extent}
use Rattle.plain_rules.specs.Counts.{free_in as plain_free}
use Rattle.plain_rules.specs.Rules.{how_many, is_sound}
use Rattle.plain_rules.proofs.Counted.{free-is}
use Rattle.plain_rules.proofs.Many.{many_count}
use Rattle.std.specs.List.{count_by}
use Rattle.plain_decide.specs.Calls.{outcome_of, Serves, Formats}
use Rattle.plain_host.specs.Host.{shown, told}
use Rattle.plain_host.specs.declared.Host.{Host}
use Rattle.plain_host.specs.declared.Reply.{Reply}
use Rattle.plain_script.specs.Serving.{Replied, Answered}
use Rattle.plain_script.specs.declared.Turn.{Turn}

-- ---- one line

module _ (s u : List ℕ) (n m : ℕ) (word : List ℕ) (k v : ℕ) where
  pub says-granted : k ≡ 0 → (m ≡ n + length (line word v)) × (u ≡ written s n (line word v)) × (m ≤ n + length word + 11) →
      Prints s u n m (outcome_line word (record { number = k; value = v }))
  unfolding outcome_line pick
  says-granted e p = rw (eq-eqb k 0 e) (p.0, p.1)

  pub says-refused : (k ≡ 0 → ⊥) → (m ≡ n + length (line no_word k)) × (u ≡ written s n (line no_word k)) × (m ≤ n + 3 + 11) →
      Prints s u n m (outcome_line word (record { number = k; value = v }))
  unfolding outcome_line pick
  says-refused e p = rw (ne_eqb k 0 e) (p.0, p.1)

module _ (s : Plain) (b u v : List ℕ) (n m : ℕ) (r : Reply) (d : List ℕ) (h : 6144 ≤ length b) (z : is_sound s b ≡ true) where
  pub take-replied : (size : ℕ) → Serves s b (Alloc size) (told r) d → Prints u v n m (alloc_line (outcome_of (told r))) → Replied s b (some (Alloc size)) u v n (record { after = r.after; at = m }) d
  unfolding reply next reply_line
  take-replied size G (p, q) = record {
    place = p ∙ ap (λ (o : Outcome). n + length (alloc_line o)) (G.answer h z);
    text = q ∙ ap (λ (o : Outcome). written u n (alloc_line o)) (G.answer h z);
    state = G.state h z;
    sound = G.sound h z;
    long = G.long;
  }

  pub give_replied : (off : ℕ) → Serves s b (Free off) (told r) d → Prints u v n m (free_line (outcome_of (told r))) → Replied s b (some (Free off)) u v n (record { after = r.after; at = m }) d
  unfolding reply next reply_line
  give_replied off G (p, q) = record {
    place = p ∙ ap (λ (o : Outcome). n + length (free_line o)) (G.answer h z);
    text = q ∙ ap (λ (o : Outcome). written u n (free_line o)) (G.answer h z);
    state = G.state h z;
    sound = G.sound h z;
    long = G.long;
  }

pub none-replied : (h : Host) (b u v : List ℕ) (n : ℕ) (t : Turn) → is_sound (shown h) b ≡ true → (t.after ≡ h) × Prints u v n t.at (refusal_line Unreadable) → Replied (shown h) b none u v n t b
unfolding reply next
none-replied h b u v n t z (e, p) = record { place = p.0; text = p.1; state = rw e; sound = rw e z; long = refl }

module _ (s : Plain) (b u v : List ℕ) (n : ℕ) (t : Turn) where
  pub replied_as : (d : List ℕ) (x y : Option Call) → x ≡ y → Replied s b x u v n t d → Replied s b y u v n t d
  replied_as d x y e p = rw (← e) p

-- ---- all lines

-- what is left to serve and to print makes the whole
pub record Left (m : State) (u : List ℕ) (n : ℕ) (ls : List (List ℕ)) (m₀ : State) (u₀ : List ℕ) (n₀ : ℕ) (ls₀ : List (List ℕ)) : Type 0 where
  pub place : n + length (joined (replies m ls)) ≡ n₀ + length (joined (replies m₀ ls₀))
  pub text : written u n (joined (replies m ls)) ≡ written u₀ n₀ (joined (replies m₀ ls₀))
  pub state : final m ls ≡ final m₀ ls₀

module _ (m₀ : State) (u₀ : List ℕ) (n₀ : ℕ) (ls₀ : List (List ℕ)) where
  pub left-all : Left m₀ u₀ n₀ ls₀ m₀ u₀ n₀ ls₀
  left-all = record { place = refl; text = refl; state = refl }

  pub left_as : (m : State) (u : List ℕ) (n : ℕ) (ls ls' : List (List ℕ)) → ls ≡ ls' → Left m u n ls m₀ u₀ n₀ ls₀ → Left m u n ls' m₀ u₀ n₀ ls₀
  left_as m u n ls ls' e p = rw (← e) p

  pub left_more : (s : Plain) (b u v : List ℕ) (n : ℕ) (t : Turn) (d l : List ℕ) (ls : List (List ℕ)) → Replied s b (request l) u v n t d →
      Left (read_plain s b) u n (l ∷ ls) m₀ u₀ n₀ ls₀ → Left (read_plain (shown t.after) d) v t.at ls m₀ u₀ n₀ ls₀
  left_more s b u v n t d l ls R p =
      let this : List ℕ = reply (read_plain s b) (request l) in
      let rest : List ℕ = joined (replies (next (read_plain s b) (request l)) ls) in
      rw R.state
      (record {
        place = omega (arith, R.place, p.place, length-append this rest);
        text = rw (R.place, R.text) (sym (written_append u n this rest) ∙ p.text);
        state = p.state;
      })

-- the last line was served
pub left-none : (s : Plain) (b : List ℕ) (ls : List (List ℕ)) (u v : List ℕ) (n : ℕ) (t : Turn) (d : List ℕ) → is_sound (shown t.after) d ≡ true →
    Left (read_plain (shown t.after) d) v t.at [] (read_plain s b) u n ls → Answered s b ls u v n t d
left-none s b ls u v n t d z p = record { place = omega (arith, p.place); text = sym (written_none v t.at) ∙ p.text; state = p.state; sound = z }

pub replies-few : (m : State) (input : List ℕ) → length (joined (replies m (lines input))) ≤ 5 * (length input + 1) + 32
unfolding exchange
replies-few m input = omega (arith, exchange-fits m input, length-append (joined (replies m (lines input))) (summary (final m (lines input))))

-- ---- the last line

runs-counted : (t : List Extent) → how_many (holds 1) t ≡ length (read_runs t)
unfolding how_many holds read_runs is_vacant pick
runs-counted [] = refl
runs-counted (e ∷ t) = go e.len (runs-counted t)
  where
    go : (n : ℕ) → how_many (holds 1) t ≡ length (read_runs t) → bit (leb 1 n) + how_many (holds 1) t ≡ length (pick (eqb n 0) (read_runs t) (run_of e ∷ read_runs t))
    go zero ih = omega (arith, ih)
    go (suc n) ih = rw (ne_eqb (suc n) 0 (λ z. omega arith), le-leb 1 (suc n) (omega arith)) (omega (arith, ih))

pub runs_counted : (t : List Extent) → count_by (λ e. leb 1 e.len) t ≡ length (read_runs t)
unfolding holds
runs_counted t = sym (many_count (holds 1) t) ∙ runs-counted t

plain-summary : (s : Plain) (b : List ℕ) → is_sound s b ≡ true → summary_line s.free (length (read_runs s.runs)) ≡ summary (read_plain s b)
unfolding summary read_plain is_sound free_in
plain-summary s b h = ap (λ (n : ℕ). summary_line n (length (read_runs s.runs))) (eqb-true s.free (plain_free s.pages) (each_of _ h).1.1.0 ∙ free-is s b)

-- ---- first line, lines, last line

pub all_do : (s : Plain) (b u v x y input : List ℕ) (a r : ℕ) (t : Turn) (d : List ℕ) → Formats s → Prints u v 0 a (line pool_word pages) → Answered s b (lines input) v x a t d →
    Prints x y t.at r (summary_line t.after.kept.free (length (read_runs t.after.runs))) → (r ≡ length (transcript input)) × (y ≡ written u 0 (transcript input))
unfolding transcript exchange
all_do s b u v x y input a r t d F (p, q) A (p', q') =
    let m : State = fresh pages in
    let first : List ℕ = line pool_word pages in
    let text : List ℕ = joined (replies m (lines input)) in
    let last : List ℕ = summary (final m (lines input)) in
    let ends : summary_line t.after.kept.free (length (read_runs t.after.runs)) ≡ last =
    plain-summary (shown t.after) d A.sound ∙ ap summary (A.state ∙ ap (λ (m : State). final m (lines input)) (F.state b)) in
    let n₁ : t.at ≡ a + length text = A.place ∙ ap (λ (m : State). a + length (joined (replies m (lines input)))) (F.state b) in
    let w₁ : x ≡ written v a text = A.text ∙ ap (λ (m : State). written v a (joined (replies m (lines input)))) (F.state b) in
    let n₂ : r ≡ t.at + length last = p' ∙ ap (λ (l : List ℕ). t.at + length l) ends in
    let w₂ : y ≡ written x t.at last = q' ∙ ap (λ (l : List ℕ). written x t.at l) ends in
    let both : written x t.at last ≡ written v a (text ++ last) = rw (n₁, w₁) (sym (written_append v a text last)) in
    let all : written v a (text ++ last) ≡ written u 0 (first ++ (text ++ last)) = rw (p, q) (sym (written_append u 0 first (text ++ last))) in (
      omega (arith, p, n₁, n₂, length-append first (text ++ last), length-append text last),
      w₂ ∙ both ∙ all,
    )
