-- An answer reads back from its word: its value has at most 32 bits.
use mathlib.Core.Path.{◌≡◌, refl}
use mathlib.Core.Logic.{◌⊎◌, inl, inr, ◌≢◌}
use mathlib.Core.List.{List}
use Prim.Native.Nat.{ℕ, ◌+◌, ◌*◌, ◌/◌, ◌%◌, ◌≤◌, ◌<◌}
use native.Mathlib.Omega.{arith}
use Rattle.base.proofs.Cases.{eq?}
use Rattle.words.specs.Word.{Bytes}
use Rattle.answers.specs.Outcome.{Outcome, refused}
use Rattle.answers.specs.declared.Refusal.TheVariants.{NotSound}
use Rattle.answer_words.specs.Word.{word_of}
use Rattle.model.specs.Classes.{Need, nothing, chunk_of, pages, need_of}
use Rattle.model.specs.State.{State}
use Rattle.model.specs.Calls.{Call, Alloc, Free, Answer, at, freed, no, step}
use Rattle.model.specs.Effects.{Effect, AllocEffect, FreeEffect}
use Rattle.model.specs.Live.{offset, block_for}
use Rattle.model.proofs.Claim.{claims}
use Rattle.rules.specs.Bytes.{broken_rule, read}
use Rattle.drawing.specs.Claim.{Fitting}
use Rattle.drawing.proofs.Laws.{claims as laws-of}
use Rattle.demands.specs.Calls.{outcome, answered}
use Rattle.demands.proofs.Calls.{sound-answer, demand1}
use Rattle.batch.specs.Claim.{outcome_in}

reads_back : (o : Outcome) → o.value < 4294967296 → outcome_in (word_of o) ≡ o
reads_back o h =
    let p : (o.number * 72057594037927936 + o.value) / 72057594037927936 ≡ o.number = omega arith in
    let q : (o.number * 72057594037927936 + o.value) % 4294967296 ≡ o.value = omega arith in
    λ i. record { number = p i; value = q i }

offset_for : (x : Need) (off : ℕ) → offset (block_for x off) ≡ off
unfolding block_for
offset_for nothing off = refl
offset_for (chunk_of c) off = refl
offset_for (pages k) off = refl

module _ (w : ℕ) (wide : 2 ≤ w) (narrow : w ≤ 255) (s : List ℕ) (B : Bytes s) where
  module _ (sound : broken_rule w s ≡ 0) where
    abbrev m : State
    m = read w s

    F : Fitting w s m
    F = (laws-of w wide narrow s B).sound-fits sound

    -- offsets and extents lie in the pages
    small-value : (call : Call) → (outcome (step m call).answer).value < 4294967296
    unfolding Effect AllocEffect FreeEffect
    small-value (Alloc n) = go (step m (Alloc n)).answer (claims.calls_keep m F.well (Alloc n)).effect
      where
        N : Fitting w s (step m (Alloc n)).after
        N = (laws-of w wide narrow s B).next_fits m F (Alloc n)

        go : (a : Answer) → AllocEffect (need_of n) m.page a (step m (Alloc n)).after.page → (outcome a).value < 4294967296
        go (at off) e = omega (arith, N.few, offset_for (need_of n) off, (claims.placing (step m (Alloc n)).after N.well).within-pages _ e.made)
        go (freed k) e = absurd e
        go (no k) e = omega arith
    small-value (Free off) = go (step m (Free off)).answer (claims.calls_keep m F.well (Free off)).effect
      where
        go : (a : Answer) → FreeEffect off m.page a (step m (Free off)).after.page → (outcome a).value < 4294967296
        go (at x) e = absurd e
        go (freed n) e = let (b, l, o, x) = e.was in omega (arith, F.few, (claims.placing m F.well).within-pages b l)
        go (no k) e = omega arith

  pub told : (call : Call) → outcome_in (word_of (answered w s call)) ≡ answered w s call
  told call = go (eq? (broken_rule w s) 0)
    where
      by_value : (o : Outcome) → answered w s call ≡ o → o.value < 4294967296 → outcome_in (word_of (answered w s call)) ≡ answered w s call
      by_value o e h = rw e (reads_back o h)

      go : (broken_rule w s ≡ 0) ⊎ (broken_rule w s ≢ 0) → outcome_in (word_of (answered w s call)) ≡ answered w s call
      go (inl e) = by_value (outcome (step (read w s) call).answer) (sound-answer w wide narrow s B e call) (small-value e call)
      go (inr d) = by_value (refused NotSound) ((demand1 w wide narrow s B).unsound d call).0 (omega arith)
