-- The statements of `specs/Claim.antt`, proved.
use mathlib.Core.Path.{◌≡◌, refl, sym, ap, ◌∙◌}
use mathlib.Core.List.{List}
use Prim.Native.Nat.{ℕ, ◌*◌, ◌≤◌}
use native.Mathlib.Omega.{arith}
use lib.ListN.{length, take}
use lib.Seq.{length-take-le}
use borrow.Author.Tests.{eq-eqb, ne_eqb}
use Rattle.base.specs.Tests.{pick}
use Rattle.model.specs.State.{State}
use Rattle.model.specs.View.{shown}
use Rattle.rules.specs.Bytes.{pages_in, broken_rule, read}
use Rattle.sound_pools.specs.Sound.{Sound}
use Rattle.sound_pools.proofs.Calls.{fits, shows}
use Rattle.free_all_model.specs.FreeAll.{Completion, done, stopped, completion_from, after_frees, whole_or_none, free_all}
use Rattle.free_all_model.proofs.Claim.{claims as model-claims}
use Rattle.free_all_bytes.specs.FreeAll.{free_all_answered, completed, free_all_outcome, freed_each, whole_or_entry, free_all_after}
use Rattle.free_all_bytes.specs.Claim.{Unsound, OnSound, AnyOrder, Claims}
use Rattle.free_all_bytes.proofs.Frees.{each-sound, each_read, each-length, all_modelled, model_all, model_first, first_modelled}

unsound : Unsound
unfolding free_all_answered free_all_after whole_or_entry pick
unsound w s offs d = rw (ne_eqb (broken_rule w s) 0 d) (refl, refl)

module _ (w : ℕ) (s : List ℕ) (S : Sound w s) (offs : List ℕ) where
  pub answer-is : free_all_answered w s offs ≡ (free_all (read w s) offs).answer
  unfolding free_all_answered pick
  answer-is = rw (eq-eqb (broken_rule w s) 0 S.sound)

  -- the slice and the state are both of the whole list, or both those at entry
  both : (R : List ℕ → State → Type 0) → R (freed_each w s offs) (after_frees (read w s) offs) → R s (read w s) → R (free_all_after w s offs) (free_all (read w s) offs).after
  unfolding free_all_after free_all
  both R x y = rw answer-is (go (completion_from (read w s) 0 offs))
    where
      go : (a : Completion) → R (whole_or_entry a (freed_each w s offs) s) (whole_or_none a (after_frees (read w s) offs) (read w s))
      go done = unfold whole_or_entry whole_or_none in x
      go (stopped k n) = unfold whole_or_entry whole_or_none in y

  done_slice : free_all_answered w s offs ≡ done → free_all_after w s offs ≡ freed_each w s offs
  unfolding free_all_after whole_or_entry
  done_slice e = rw e

  stopped_slice : (k n : ℕ) → free_all_answered w s offs ≡ stopped k n → free_all_after w s offs ≡ s
  unfolding free_all_after whole_or_entry
  stopped_slice k n e = rw e

  few : (free_all_outcome w s offs).value ≤ 4096 * pages_in w s
  unfolding free_all_outcome
  few = go (free_all_answered w s offs) refl
    where
      -- of a list that is done
      all : (xs : List ℕ) → (free_all (read w s) xs).answer ≡ done → length xs ≤ 4096 * pages_in w s
      all xs e = rw (← (fits w s S).size) ((model-claims.on_well_formed (read w s) (fits w s S).well xs).few e)

      go : (a : Completion) → free_all_answered w s offs ≡ a → (completed (length offs) a).value ≤ 4096 * pages_in w s
      go done e = all offs (sym answer-is ∙ e)
      go (stopped k n) e =
          let first = ((model-claims.as_single_frees (read w s) offs).stopped_when k n).0 (sym answer-is ∙ e) in
          let so_far = all (take k offs) ((model-claims.as_single_frees (read w s) (take k offs)).done_when.1 first.before) in
          omega (arith, so_far, length-take-le k offs (omega (arith, first.place)))

  on_sound : OnSound w s offs
  on_sound =
      let M = model-claims.as_single_frees (read w s) offs in
      record {
        done_when = (
          λ e. model_all w s S offs (M.done_when.0 (sym answer-is ∙ e)),
          λ h. answer-is ∙ M.done_when.1 (all_modelled w s S offs h),
        );
        done_slice = done_slice;
        stopped_when = λ k n. (
          λ e. model_first w s S offs k n ((M.stopped_when k n).0 (sym answer-is ∙ e)),
          λ r. answer-is ∙ (M.stopped_when k n).1 (first_modelled w s S offs k n r),
        );
        stopped_slice = stopped_slice;
        few = few;
        sound = both (λ (t : List ℕ) (m : State). Sound w t) (each-sound w s S offs) S;
        length-kept = both (λ (t : List ℕ) (m : State). length t ≡ length s) (each-length w s S offs) refl;
        state = both (λ (t : List ℕ) (m : State). read w t ≡ m) (each_read w s S offs) refl;
      }

any_order : AnyOrder
any_order w s S xs ys r d =
    let same = model-claims.any_order (read w s) (fits w s S).well xs ys r (sym (answer-is w s S xs) ∙ d) in
    let X = on_sound w s S xs in
    let Y = on_sound w s S ys in (
      answer-is w s S ys ∙ same.done_too,
      shows w _ Y.sound ∙ ap shown Y.state ∙ same.view ∙ sym (shows w _ X.sound ∙ ap shown X.state),
    )

pub claims : Claims
claims = record { unsound = unsound; on_sound = on_sound; any_order = any_order }
