-- On sound records: an alloc freed at once, two frees in either order, all blocks freed, and pools with the same live blocks.
use mathlib.Core.Path.{◌≡◌, refl, sym, ap, ◌∙◌}
use mathlib.Core.Logic.{◌≢◌, ◌↔◌}
use mathlib.Core.List.{List, []}
use Prim.Native.Nat.{ℕ, ◌≤◌}
use Rattle.words.specs.Word.{Bytes}
use Rattle.answers.specs.Outcome.{Outcome, granted}
use Rattle.model.specs.State.{State}
use Rattle.model.specs.WellFormed.{WellFormed}
use Rattle.model.specs.Calls.{Call, Alloc, Free, Answer, at, freed, no, step}
use Rattle.model.specs.Live.{Block, offset, run_from}
use Rattle.model.specs.Effects.{Effect, AllocEffect, without}
use Rattle.model.specs.Expected.{expected}
use Rattle.model.specs.View.{shown}
use Rattle.model.specs.Claim.{Faithful as Followed}
use Rattle.model.proofs.Claim.{claims}
use Rattle.rules.specs.Bytes.{pages_in, broken_rule, read}
use Rattle.drawing.proofs.Laws.{claims as laws-of}
use Rattle.demands.specs.Calls.{outcome, answered, after}
use Rattle.demands.specs.Shown.{shown_by}
use Rattle.demands.specs.Demands.{number_in, live_in, Corollaries}
use Rattle.demands.proofs.Calls.{verdict-number, view-is, sound-answer, after-sound, after_read, demand1}
use Rattle.demands.proofs.Turns.{numbered}

module _ (w : ℕ) (wide : 2 ≤ w) (narrow : w ≤ 255) (s : List ℕ) (B : Bytes s) (sound : broken_rule w s ≡ 0) where
  abbrev state : State
  state = read w s

  well : WellFormed state
  well = ((laws-of w wide narrow s B).sound-fits sound).well

  sized_as : state.size ≡ pages_in w s
  sized_as = ((laws-of w wide narrow s B).sound-fits sound).size

  bytes_after : (call : Call) → Bytes (after w s call)
  bytes_after call = (demand1 w wide narrow s B).bytes-kept call

  -- what a second call answers and leaves
  second_answer : (a b : Call) → answered w (after w s a) b ≡ outcome (step (step state a).after b).answer
  second_answer a b =
      sound-answer w wide narrow (after w s a) (bytes_after a) (after-sound w wide narrow s B sound a) b
      ∙ ap (λ (x : State). outcome (step x b).answer) (after_read w wide narrow s B sound a)

  second_view : (a b : Call) → shown_by w (after w (after w s a) b) ≡ shown (step (step state a).after b).after
  second_view a b =
      let C = bytes_after a in
      let e = after-sound w wide narrow s B sound a in
      view-is w wide narrow (after w (after w s a) b) ((demand1 w wide narrow (after w s a) C).bytes-kept b) (after-sound w wide narrow (after w s a) C e b)
      ∙ ap shown (after_read w wide narrow (after w s a) C e b ∙ ap (λ (x : State). (step x b).after) (after_read w wide narrow s B sound a))

  alloc-freed : (n off : ℕ) → answered w s (Alloc n) ≡ granted off →
      ((answered w (after w s (Alloc n)) (Free off)).number ≡ 0) × (shown_by w (after w (after w s (Alloc n)) (Free off)) ≡ shown_by w s)
  alloc-freed n off e = go (step state (Alloc n)).answer refl (sym (sound-answer w wide narrow s B sound (Alloc n)) ∙ e) (claims.calls_keep state well (Alloc n)).effect
    where
      go : (a : Answer) → (step state (Alloc n)).answer ≡ a → outcome (step state (Alloc n)).answer ≡ granted off → Effect (Alloc n) state.page (step state (Alloc n)).answer (step state (Alloc n)).after.page →
          ((answered w (after w s (Alloc n)) (Free off)).number ≡ 0) × (shown_by w (after w (after w s (Alloc n)) (Free off)) ≡ shown_by w s)
      go (at x) f z k =
          let d : x ≡ off = ap (λ (o : Outcome). o.value) (ap outcome (sym f) ∙ z) in
          let U = claims.alloc-freed state well n off (f ∙ ap at d) in (
            ap (λ (o : Outcome). o.number) (second_answer (Alloc n) (Free off)) ∙ ap (λ (a : Answer). (outcome a).number) U.granted,
            second_view (Alloc n) (Free off) ∙ U.view ∙ sym (view-is w wide narrow s B sound),
          )
      go (freed x) f z k = absurd (unfold Effect AllocEffect in (rw f at k))
      go (no x) f z k =
          absurd (numbered state well (Alloc n) x f (ap (λ (o : Outcome). o.number) (ap outcome (sym f) ∙ z)))

  either_way : (d e : Block) → live_in w s d → live_in w s e → d ≢ e →
      shown_by w (after w (after w s (Free (offset d))) (Free (offset e))) ≡ shown_by w (after w (after w s (Free (offset e))) (Free (offset d)))
  unfolding without
  either_way d e l r n =
      second_view (Free (offset d)) (Free (offset e)) ∙ claims.freed-either_way state well d e l r n
      ∙ sym (second_view (Free (offset e)) (Free (offset d)))

  all-freed : ((e : Block) → ¬ live_in w s e) → shown_by w s ≡ expected (pages_in w s) []
  unfolding run_from
  all-freed none =
      let x : Followed state.size (record { state = state; live = [] }) =
      claims.demand3-from (record { state = state; live = [] }) well (record { once = tt; live = λ e k. absurd k; all = λ e k. absurd (none e k) }) [] in
      view-is w wide narrow s B sound ∙ x.view ∙ ap (λ (n : ℕ). expected n []) sized_as

pub corollaries : (w : ℕ) (wide : 2 ≤ w) (narrow : w ≤ 255) (s : List ℕ) (B : Bytes s) → broken_rule w s ≡ 0 → Corollaries w s
corollaries w wide narrow s B e = record {
  alloc-freed = alloc-freed w wide narrow s B e;
  either_way = either_way w wide narrow s B e;
  all-freed = all-freed w wide narrow s B e;
  alike = alike;
}
  where
    alike : (t : List ℕ) → Bytes t → broken_rule w t ≡ 0 → pages_in w s ≡ pages_in w t → ((e : Block) → live_in w s e ↔ live_in w t e) →
        (shown_by w s ≡ shown_by w t) × ((call : Call) → (answered w s call).number ≡ (answered w t call).number)
    alike t C f p h =
        let A = claims.same_blocks (read w s) (read w t) (well w wide narrow s B e) (well w wide narrow t C f)
        (sized_as w wide narrow s B e ∙ p ∙ sym (sized_as w wide narrow t C f)) h in (
          view-is w wide narrow s B e ∙ A.view ∙ sym (view-is w wide narrow t C f),
          λ call.
              ap (λ (o : Outcome). o.number) (sound-answer w wide narrow s B e call) ∙ verdict-number (step (read w s) call).answer
              ∙ ap number_in (A.ruled call)
              ∙ sym (ap (λ (o : Outcome). o.number) (sound-answer w wide narrow t C f call) ∙ verdict-number (step (read w t) call).answer),
        )
