-- The call answers and leaves what single frees in that order do.
use mathlib.Core.Path.{◌≡◌, refl, ap, ◌∙◌}
use mathlib.Core.Logic.{◌↔◌}
use mathlib.Core.List.{List, [], ◌∷◌}
use Prim.Native.Nat.{ℕ, zero, suc, ◌+◌}
use native.Mathlib.Omega.{arith}
use Rattle.base.proofs.Cases.{never}
use Rattle.model.specs.State.{State}
use Rattle.model.specs.Calls.{Free, Answer, at, freed, no, step}
use Rattle.model.specs.Ruling.{granted, verdict}
use Rattle.free_all_model.specs.FreeAll.{Completion, done, stopped, onward, completion_from, after_frees, whole_or_none, free_all}
use Rattle.free_all_model.specs.Claim.{AllGranted, FirstRefusal, AsSingleFrees}

-- ---- done

pub onward-done : (k : ℕ) (a : Answer) (rest : Completion) → (onward k a rest ≡ done) ↔ ((verdict a ≡ granted) × (rest ≡ done))
unfolding onward
onward-done k (at off) rest = (λ e. (refl, e), λ (_, e). e)
onward-done k (freed n) rest = (λ e. (refl, e), λ (_, e). e)
onward-done k (no n) rest = (λ e. absurd (never (cc)), λ (e, _). absurd (never (cc)))

pub done_granted : (s : State) (k : ℕ) (offs : List ℕ) → completion_from s k offs ≡ done → AllGranted s offs
unfolding completion_from
done_granted s k [] e = tt
done_granted s k (off ∷ offs) e =
    let (g, r) = (onward-done k (step s (Free off)).answer (completion_from (step s (Free off)).after (suc k) offs)).0 e in
    (g, done_granted (step s (Free off)).after (suc k) offs r)

pub granted-done : (s : State) (k : ℕ) (offs : List ℕ) → AllGranted s offs → completion_from s k offs ≡ done
unfolding completion_from
granted-done s k [] h = refl
granted-done s k (off ∷ offs) (g, h) =
    (onward-done k (step s (Free off)).answer (completion_from (step s (Free off)).after (suc k) offs)).1 (g, granted-done (step s (Free off)).after (suc k) offs h)

-- ---- stopped

-- the first refusal of a list, from its first free
first_here : (s : State) (off : ℕ) (offs : List ℕ) (n : ℕ) → (step s (Free off)).answer ≡ no n → FirstRefusal s (off ∷ offs) 0 n
unfolding after_frees
first_here s off offs n e = record { place = omega arith; before = tt; number = e }

first-later : (s : State) (off : ℕ) (offs : List ℕ) (k n : ℕ) → verdict (step s (Free off)).answer ≡ granted →
    FirstRefusal (step s (Free off)).after offs k n → FirstRefusal s (off ∷ offs) (suc k) n
unfolding after_frees
first-later s off offs k n g r = record { place = omega (arith, r.place); before = (g, r.before); number = r.number }

-- the answer's place counts from j on
pub record StoppedAt (s : State) (j : ℕ) (offs : List ℕ) (k n : ℕ) : Type 0 where
  pub at_place : ℕ
  pub counted : k ≡ j + at_place
  pub first : FirstRefusal s offs at_place n

pub stopped-first : (s : State) (j : ℕ) (offs : List ℕ) (k n : ℕ) → completion_from s j offs ≡ stopped k n → StoppedAt s j offs k n
unfolding completion_from
stopped-first s j [] k n e = absurd (never (cc))
stopped-first s j (off ∷ offs) k n e = go (step s (Free off)).answer refl e (stopped-first (step s (Free off)).after (suc j) offs k n)
  where
    later : verdict (step s (Free off)).answer ≡ granted → StoppedAt (step s (Free off)).after (suc j) offs k n → StoppedAt s j (off ∷ offs) k n
    later g r = record { at_place = suc r.at_place; counted = omega (arith, r.counted); first = first-later s off offs r.at_place n g r.first }

    go : (a : Answer) → (step s (Free off)).answer ≡ a → onward j a (completion_from (step s (Free off)).after (suc j) offs) ≡ stopped k n →
        (completion_from (step s (Free off)).after (suc j) offs ≡ stopped k n → StoppedAt (step s (Free off)).after (suc j) offs k n) → StoppedAt s j (off ∷ offs) k n
    go (at b) h d ih = unfold onward in (later (ap verdict h) (ih d))
    go (freed b) h d ih = unfold onward in (later (ap verdict h) (ih d))
    go (no b) h d ih =
        let d' : stopped j b ≡ stopped k n = unfold onward in d in
        let x : j ≡ k = cc in
        let y : b ≡ n = cc in
        record { at_place = 0; counted = omega arith; first = first_here s off offs n (h ∙ ap no y) }

pub first-stopped : (s : State) (j : ℕ) (offs : List ℕ) (k n : ℕ) → FirstRefusal s offs k n → completion_from s j offs ≡ stopped (j + k) n
unfolding completion_from after_frees onward
first-stopped s j [] k n r = absurd (omega (arith, r.place))
first-stopped s j (off ∷ offs) zero n r = rw r.number (ap (λ (i : ℕ). stopped i n) (omega arith))
first-stopped s j (off ∷ offs) (suc k) n r = go (step s (Free off)).answer refl (first-stopped (step s (Free off)).after (suc j) offs k n rest)
  where
    rest : FirstRefusal (step s (Free off)).after offs k n
    rest = record { place = omega (arith, r.place); before = r.before.1; number = r.number }

    go : (a : Answer) → (step s (Free off)).answer ≡ a → completion_from (step s (Free off)).after (suc j) offs ≡ stopped (suc j + k) n →
        onward j a (completion_from (step s (Free off)).after (suc j) offs) ≡ stopped (j + suc k) n
    go (at b) h e = e ∙ ap (λ (i : ℕ). stopped i n) (omega arith)
    go (freed b) h e = e ∙ ap (λ (i : ℕ). stopped i n) (omega arith)
    go (no b) h e = absurd (never (cc (r.before.0, ap verdict h)))

-- ---- the whole or none

whole : (a : Completion) (t s : State) → a ≡ done → whole_or_none a t s ≡ t
unfolding whole_or_none
whole done t s e = refl
whole (stopped k n) t s e = absurd (never (cc))

none : (a : Completion) (t s : State) (k n : ℕ) → a ≡ stopped k n → whole_or_none a t s ≡ s
unfolding whole_or_none
none done t s k n e = absurd (never (cc))
none (stopped j m) t s k n e = refl

pub as_single_frees : (s : State) (offs : List ℕ) → AsSingleFrees s offs
unfolding free_all
as_single_frees s offs = record {
  done_when = (done_granted s 0 offs, granted-done s 0 offs);
  done-state = whole (completion_from s 0 offs) (after_frees s offs) s;
  stopped_when = λ k n. (λ e. there k n (stopped-first s 0 offs k n e), λ r. first-stopped s 0 offs k n r ∙ ap (λ (i : ℕ). stopped i n) (omega arith));
  stopped-state = none (completion_from s 0 offs) (after_frees s offs) s;
}
  where
    there : (k n : ℕ) → StoppedAt s 0 offs k n → FirstRefusal s offs k n
    there k n r = let z : r.at_place ≡ k = omega (arith, r.counted) in rw z at r.first
