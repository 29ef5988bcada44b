-- The trial of a list answers what the call does.
use mathlib.Core.Path.{◌≡◌, refl, ap, ◌∙◌}
use mathlib.Core.List.{List, [], ◌∷◌}
use Prim.Native.Nat.{ℕ, suc}
use Rattle.model.specs.State.{State}
use Rattle.model.specs.WellFormed.{WellFormed}
use Rattle.model.specs.Calls.{Free, Answer, at, freed, no, step}
use Rattle.model.specs.Ruling.{granted, verdict}
use Rattle.free_all_model.specs.FreeAll.{Completion, onward, completion_from, after_frees, free_all}
use Rattle.free_all_model.specs.Mirror.{Trial, begun, settled, tentative, tried_from, tried_all}
use Rattle.free_all_model.specs.Claim.{AllGranted}
use Rattle.free_all_model.specs.Trial.{TrialSettles, TrialAnswers, TrialDecides}
use Rattle.free_all_model.proofs.Settled.{TrialOk, begun_ok, begun-settled, answers, settles, keeps_ok}

-- tentative pages that stand for the state s
pub record Stands (t : Trial) (s : State) : Type 0 where
  pub ok : TrialOk t.page
  pub agrees : (p : ℕ) → settled t p ≡ s.page p

begun_stands : (s : State) → WellFormed s → Stands (begun s) s
unfolding begun
begun_stands s wf = record { ok = begun_ok s wf; agrees = begun-settled s wf }

next_stands : (t : Trial) (s : State) → Stands t s → (off : ℕ) → verdict (step s (Free off)).answer ≡ granted → Stands (tentative t off) (step s (Free off)).after
next_stands t s S off g = record {
  ok = keeps_ok t S.ok off;
  agrees = settles t S.ok s S.agrees off (ap verdict (answers t S.ok s S.agrees off) ∙ g);
}

all_stands : (t : Trial) (s : State) → Stands t s → (offs : List ℕ) → AllGranted s offs → Stands (tried_all t offs) (after_frees s offs)
unfolding tried_all after_frees
all_stands t s S [] h = S
all_stands t s S (off ∷ offs) (g, h) = all_stands (tentative t off) (step s (Free off)).after (next_stands t s S off g) offs h

pub trial_settles : TrialSettles
trial_settles s wf offs h = (all_stands (begun s) s (begun_stands s wf) offs h).agrees

pub trial_answers : TrialAnswers
trial_answers s wf offs h off =
    let S : Stands (tried_all (begun s) offs) (after_frees s offs) = all_stands (begun s) s (begun_stands s wf) offs h in
    answers (tried_all (begun s) offs) S.ok (after_frees s offs) S.agrees off

-- where a free is refused the rest plays no part
pub onward_same : (k : ℕ) (a : Answer) (x y : Completion) → (verdict a ≡ granted → x ≡ y) → onward k a x ≡ onward k a y
unfolding onward
onward_same k (at off) x y h = h refl
onward_same k (freed n) x y h = h refl
onward_same k (no n) x y h = refl

from_stands : (t : Trial) (s : State) → Stands t s → (k : ℕ) (offs : List ℕ) → tried_from t k offs ≡ completion_from s k offs
unfolding tried_from completion_from
from_stands t s S k [] = refl
from_stands t s S k (off ∷ offs) =
    rw (answers t S.ok s S.agrees off)
    (onward_same k (step s (Free off)).answer (tried_from (tentative t off) (suc k) offs) (completion_from (step s (Free off)).after (suc k) offs)
    (λ g. from_stands (tentative t off) (step s (Free off)).after (next_stands t s S off g) (suc k) offs))

pub trial_decides : TrialDecides
unfolding free_all
trial_decides s wf offs = from_stands (begun s) s (begun_stands s wf) 0 offs
