-- Demand 3 on the bytes of a pool: a list of turns.
use mathlib.Core.Path.{◌≡◌, refl, sym, ap, ◌∙◌, subst}
use mathlib.Core.Logic.{◌≢◌}
use mathlib.Core.List.{List, [], ◌∷◌}
use Prim.Native.Nat.{ℕ, ◌≤◌}
use borrow.Author.Tests.{ne_eqb}
use Rattle.base.specs.Tests.{pick}
use Rattle.words.specs.Word.{Bytes}
use Rattle.records.specs.Layout.{page_count}
use Rattle.answers.specs.Outcome.{Outcome}
use Rattle.model.specs.Classes.{need_of}
use Rattle.model.specs.State.{State}
use Rattle.model.specs.WellFormed.{WellFormed}
use Rattle.model.specs.Calls.{Call, Alloc, Free, Answer, at, freed, no, fresh, step}
use Rattle.model.specs.Live.{Block, noted, LiveSet, World, next, run_from}
use Rattle.model.specs.Effects.{Effect, AllocEffect, FreeEffect}
use Rattle.model.specs.Expected.{expected}
use Rattle.model.specs.View.{shown}
use Rattle.model.specs.Ruling.{ruling}
use Rattle.model.specs.Claim.{Faithful as Followed, NoOverlap}
use Rattle.model.proofs.Claim.{claims}
use Rattle.format.specs.Format.{formatted}
use Rattle.rules.specs.Bytes.{pages_in, broken_rule, read}
use Rattle.drawing.proofs.Laws.{claims as laws-of}
use Rattle.demands.specs.Calls.{outcome, answered, after}
use Rattle.demands.specs.Shown.{shown_by}
use Rattle.demands.specs.Demands.{number_in, Turn, fed, Allowed, played, book, Rewritten, Apart, Faithful, Demand3, Demand3From}
use Rattle.demands.proofs.Calls.{no_zero, verdict-number, view-is, sound-answer, after-sound, after_read, demand1}

-- ---- the live set, fed by outcomes

module _ (m : State) (W : WellFormed m) where
  pub numbered : (call : Call) (k : ℕ) → (step m call).answer ≡ no k → k ≢ 0
  numbered call k e = no_zero (shown m) call (step m call).answer (claims.calls_ruled m W call) k e

  -- what the outcome tells is what the answer tells
  fed-noted : (L : List Block) (call : Call) → fed L call (outcome (step m call).answer) ≡ noted L call (step m call).answer
  unfolding fed noted pick Effect AllocEffect FreeEffect
  fed-noted L (Alloc n) = go (step m (Alloc n)).answer (claims.calls_keep m W (Alloc n)).effect (numbered (Alloc n))
    where
      go : (a : Answer) → AllocEffect (need_of n) m.page a (step m (Alloc n)).after.page → ((k : ℕ) → a ≡ no k → k ≢ 0) → fed L (Alloc n) (outcome a) ≡ noted L (Alloc n) a
      go (at off) f z = refl
      go (freed k) f z = absurd f
      go (no k) f z = rw (ne_eqb k 0 (z k refl))
  fed-noted L (Free off) = go (step m (Free off)).answer (claims.calls_keep m W (Free off)).effect (numbered (Free off))
    where
      go : (a : Answer) → FreeEffect off m.page a (step m (Free off)).after.page → ((k : ℕ) → a ≡ no k → k ≢ 0) → fed L (Free off) (outcome a) ≡ noted L (Free off) a
      go (at x) f z = absurd f
      go (freed k) f z = refl
      go (no k) f z = rw (ne_eqb k 0 (z k refl))

  apart_by : (L : List Block) (call : Call) → NoOverlap L call (step m call).answer → Apart L call (outcome (step m call).answer)
  unfolding Apart NoOverlap Effect AllocEffect
  apart_by L (Alloc n) h = go (step m (Alloc n)).answer (claims.calls_keep m W (Alloc n)).effect (numbered (Alloc n)) h
    where
      go : (a : Answer) → AllocEffect (need_of n) m.page a (step m (Alloc n)).after.page → ((k : ℕ) → a ≡ no k → k ≢ 0) → NoOverlap L (Alloc n) a → Apart L (Alloc n) (outcome a)
      go (at off) f z h = λ _. h
      go (freed k) f z h = absurd f
      go (no k) f z h = λ e. absurd (z k refl e)
  apart_by L (Free off) h = tt

-- ---- a list of turns

module _ (w : ℕ) (wide : 2 ≤ w) (narrow : w ≤ 255) (P : ℕ) where
  -- a sound pool of P pages, with its live blocks
  record Kept (s : List ℕ) (L : List Block) : Type 0 where
    bytes : Bytes s
    sound : broken_rule w s ≡ 0
    size : pages_in w s ≡ P
    live : LiveSet L (read w s).page

  -- callers' bytes do not matter
  noisy : {s u : List ℕ} {L : List Block} → Kept s L → Rewritten w s u → Kept u L
  noisy {s} {u} {L} K (S, B) =
      let X = laws-of w wide narrow s K.bytes in
      record {
        bytes = B;
        sound = sym (X.noise_rule u S) ∙ K.sound;
        size = ap (page_count w) (sym S.lengths) ∙ K.size;
        live = subst (λ (m : State). LiveSet L m.page) (X.noise_read u S K.sound) K.live;
      }

  module _ {u : List ℕ} {L : List Block} (K : Kept u L) where
    abbrev m : State
    m = read w u

    W : WellFormed m
    W = ((laws-of w wide narrow u K.bytes).sound-fits K.sound).well

    sized : m.size ≡ P
    sized = ((laws-of w wide narrow u K.bytes).sound-fits K.sound).size ∙ K.size

    abbrev world : World
    world = record { state = m; live = L }

    -- one call
    called : (call : Call) → Kept (after w u call) (fed L call (answered w u call))
    unfolding run_from next
    called call =
        let D = demand1 w wide narrow u K.bytes in
        let x : Followed m.size (run_from world (call ∷ [])) = claims.demand3-from world W K.live (call ∷ []) in
        record {
          bytes = D.bytes-kept call;
          sound = after-sound w wide narrow u K.bytes K.sound call;
          size = ap (page_count w) (D.length-kept call) ∙ K.size;
          live = rw (after_read w wide narrow u K.bytes K.sound call, sound-answer w wide narrow u K.bytes K.sound call, fed-noted m W L call) x.live;
        }

    faithful : Faithful w P L u
    unfolding run_from
    faithful =
        let x : Followed m.size world = claims.demand3-from world W K.live [] in
        let v : shown_by w u ≡ expected P L = view-is w wide narrow u K.bytes K.sound ∙ x.view ∙ ap (λ (n : ℕ). expected n L) sized in
        record {
          sound = K.sound;
          size = K.size;
          view = v;
          once = K.live.once;
          live = λ e. (K.live.live e, K.live.all e);
          apart = λ call. rw (sound-answer w wide narrow u K.bytes K.sound call) (apart_by m W L call (x.apart call));
          ruled = λ call.
              ap (λ (o : Outcome). o.number) (sound-answer w wide narrow u K.bytes K.sound call) ∙ verdict-number (step m call).answer
              ∙ ap number_in (x.ruled call ∙ ap (λ (n : ℕ). ruling (expected n L) call) sized);
          tells = λ e x. (demand1 w wide narrow u K.bytes).free-tells e K.sound (K.live.live e x);
        }

  turns : (ts : List Turn) (s : List ℕ) (L : List Block) → Kept s L → Allowed w s ts → (u : List ℕ) → Rewritten w (played w s ts) u →
      Faithful w P (book w L ts) u
  turns [] s L K A u R = faithful (noisy K R)
  turns (t ∷ ts) s L K A u R =
      turns ts (after w t.bytes t.call) (fed L t.call (answered w t.bytes t.call)) (called (noisy K A.0) t.call) A.1 u R

pub demand3-from : (w : ℕ) → 2 ≤ w → w ≤ 255 → (s : List ℕ) → Bytes s → Demand3From w s
demand3-from w wide narrow s C sound D live B u R =
    subst (λ (L : List Block). Faithful w (pages_in w s) L u) R.live
    (turns w wide narrow (pages_in w s) R.turns s D (record { bytes = C; sound = sound; size = refl; live = live }) R.allowed u R.since)

pub demand3 : (w : ℕ) → 2 ≤ w → w ≤ 255 → (s : List ℕ) → Bytes s → Demand3 w s
demand3 w wide narrow s C B u R =
    let X = laws-of w wide narrow s C in
    let fits = X.fresh-fits R.some R.most in
    subst (λ (L : List Block). Faithful w (pages_in w s) L u) R.live
    (turns w wide narrow (pages_in w s) R.turns (formatted w s) []
    (record {
      bytes = X.format_bytes R.some R.most;
      sound = X.format_sound R.some R.most;
      size = ap (page_count w) (X.format_length R.some R.most);
      live = rw (X.format_read R.some R.most) (none (pages_in w s) fits.well.some-page);
    })
    R.allowed u R.since)
  where
    none : (P : ℕ) → 1 ≤ (fresh P).size → LiveSet [] (fresh P).page
    none P h = record { once = tt; live = λ e k. absurd k; all = λ e l. absurd ((claims.fresh-pool P (unfold fresh in h)).1 e l) }
