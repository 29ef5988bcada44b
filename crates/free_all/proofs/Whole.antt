-- On validated records the list tried in code decides the call, and is taken back; then it is refused, or freed.
use Rattle.std.specs.Prelude.{Result, Ok, Err}
use mathlib.Core.Path.{◌≡◌, sym, ap, ◌∙◌}
use mathlib.Core.Logic.{◌≢◌}
use mathlib.Core.List.{List}
use Prim.Native.Nat.{ℕ, ◌≤◌, ◌<◌}
use native.Mathlib.Nat.{zero-add}
use native.Mathlib.Omega.{arith}
use lib.ListN.{length, take}
use Rattle.answers.specs.declared.Refusal.{Refusal}
use Rattle.answers.specs.Outcome.{number_of, Outcome, granted}
use Rattle.answers.specs.declared.Refusal.TheVariants.{NotSound}
use Rattle.rules.specs.Bytes.{pages_in, broken_rule}
use Rattle.sound_pools.specs.Sound.{Sound, Validated}
use Rattle.sound_pools.proofs.Calls.{fits}
use Rattle.free_all_model.specs.FreeAll.{Completion, done, stopped}
use Rattle.free_all_bytes.specs.FreeAll.{free_all_answered, completed, free_all_outcome, freed_each, free_all_after}
use Rattle.free_all_bytes.proofs.Claim.{claims}
use Rattle.free_all_trial.proofs.Claim.{decides}
use Rattle.free_all_mark.proofs.Trying.{Trying, sound_trying}
use Rattle.free_all_list.specs.declared.Stop.{Stop}
use Rattle.free_all_list.specs.Mirror.{list_tried, list_marked, list_back, granted_of, completion_of}
use Rattle.free_all_list.proofs.Meets.{answer-is, granted_in, all_back}

-- an unsound pool is refused at place 0 and stays
pub is-unsound : (w : ℕ) (s offs : List ℕ) → broken_rule w s ≢ 0 → (record { number = number_of NotSound; value = 0 } ≡ free_all_outcome w s offs) × (s ≡ free_all_after w s offs)
unfolding free_all_outcome
is-unsound w s offs d = let (a, b) = claims.unsound w s offs d in (sym (ap (completed (length offs)) a), sym b)

module _ {w : ℕ} {s : List ℕ} {pages : ℕ} (G : Validated w s pages) where
  S : Sound w s
  S = G.pool

  trying : Trying w s
  trying = sound_trying w s S

  module _ (offs : List ℕ) where
    -- ---- the trial

    tried-is : completion_of (list_tried w s pages 0 offs) ≡ free_all_answered w s offs
    tried-is = ap (λ (P : ℕ). completion_of (list_tried w s P 0 offs)) G.counted ∙ answer-is w s trying 0 offs ∙ decides w s S offs

    -- of the list tried, r, with n granted, which left v and is taken back to u
    module _ (r : Result (Unit {0}) Stop) (n : ℕ) (tried : r ≡ list_tried w s pages 0 offs) (many : n ≡ granted_of r (length offs)) where
      pub granted-low : n ≤ length offs
      granted-low = rw (many, tried) (rw (zero-add (length offs)) at (granted_in w s pages 0 offs).1)

      module _ (v u : List ℕ) (marked : v ≡ list_marked w s pages offs) (back : u ≡ list_back w v pages (take n offs)) where
        pub back_is : u ≡ s
        back_is =
            let k : ℕ = granted_of (list_tried w s (pages_in w s) 0 offs) (length offs) in
            rw (back, marked, many, tried, G.counted)
            (all_back w s trying 0 offs k (ap (granted_of (list_tried w s (pages_in w s) 0 offs)) (zero-add (length offs)) ∙ sym (zero-add k)))

        pub ready : Validated w u pages × (completion_of r ≡ free_all_answered w u offs)
        ready = rw back_is (G, ap completion_of tried ∙ tried-is)

    pub carried : (u : List ℕ) → u ≡ s → {o : Outcome} {x : List ℕ} → (o ≡ free_all_outcome w u offs) × (x ≡ free_all_after w u offs) →
        (o ≡ free_all_outcome w s offs) × (x ≡ free_all_after w s offs)
    carried u e (a, b) = (a ∙ ap (λ (t : List ℕ). free_all_outcome w t offs) e, b ∙ ap (λ (t : List ℕ). free_all_after w t offs) e)

    -- ---- the end

    few : (n : ℕ) → (free_all_outcome w s offs).value ≡ n → n < 4294967296
    few n e = omega (arith, (claims.on_sound w s S offs).few, e, (fits w s S).size, (fits w s S).few)

    module _ (r : Result (Unit {0}) Stop) (t : completion_of r ≡ free_all_answered w s offs) where
      pub done-few : completion_of r ≡ done → length offs < 4294967296
      unfolding free_all_outcome
      done-few e = few (length offs) (ap (λ (a : Completion). (completed (length offs) a).value) (sym t ∙ e))

      pub done_met : completion_of r ≡ done → (granted (length offs) ≡ free_all_outcome w s offs) × (freed_each w s offs ≡ free_all_after w s offs)
      unfolding free_all_outcome
      done_met e = (ap (completed (length offs)) (sym e ∙ t), sym ((claims.on_sound w s S offs).done_slice (sym t ∙ e)))

      module _ (k n : ℕ) (e : completion_of r ≡ stopped k n) where
        pub stopped-few : k < 4294967296
        unfolding free_all_outcome
        stopped-few = few k (ap (λ (a : Completion). (completed (length offs) a).value) (sym t ∙ e))

        pub stopped_met : (record { number = n; value = k } ≡ free_all_outcome w s offs) × (s ≡ free_all_after w s offs)
        unfolding free_all_outcome
        stopped_met = (ap (completed (length offs)) (sym e ∙ t), sym ((claims.on_sound w s S offs).stopped_slice k n (sym t ∙ e)))
