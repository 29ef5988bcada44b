-- Single frees on the bytes of a sound pool are those of the model.
use mathlib.Core.Path.{◌≡◌, refl, sym, ap, ◌∙◌, subst}
use mathlib.Core.List.{List, [], ◌∷◌}
use Prim.Native.Nat.{ℕ}
use lib.ListN.{length, get_or, take}
use Rattle.model.specs.State.{State}
use Rattle.model.specs.Calls.{Free, step}
use Rattle.rules.specs.Bytes.{read}
use Rattle.demands.specs.Calls.{after}
use Rattle.sound_pools.specs.Sound.{Sound}
use Rattle.sound_pools.proofs.Calls.{granted-number, number-granted, refused-number, refused-some, number-refused, after-sound, after_read, after-length}
use Rattle.free_all_model.specs.FreeAll.{after_frees}
use Rattle.free_all_model.specs.Claim.{AllGranted as AllInModel, FirstRefusal as FirstInModel}
use Rattle.free_all_bytes.specs.FreeAll.{freed_each}
use Rattle.free_all_bytes.specs.Claim.{AllGranted, FirstRefusal}

-- ---- the pool after them

pub each-sound : (w : ℕ) (s : List ℕ) → Sound w s → (offs : List ℕ) → Sound w (freed_each w s offs)
unfolding freed_each
each-sound w s S [] = S
each-sound w s S (off ∷ offs) = each-sound w (after w s (Free off)) (after-sound w s S (Free off)) offs

pub each_read : (w : ℕ) (s : List ℕ) → Sound w s → (offs : List ℕ) → read w (freed_each w s offs) ≡ after_frees (read w s) offs
unfolding freed_each after_frees
each_read w s S [] = refl
each_read w s S (off ∷ offs) =
    each_read w (after w s (Free off)) (after-sound w s S (Free off)) offs ∙ ap (λ (m : State). after_frees m offs) (after_read w s S (Free off))

pub each-length : (w : ℕ) (s : List ℕ) → Sound w s → (offs : List ℕ) → length (freed_each w s offs) ≡ length s
unfolding freed_each
each-length w s S [] = refl
each-length w s S (off ∷ offs) = each-length w (after w s (Free off)) (after-sound w s S (Free off)) offs ∙ after-length w s S (Free off)

-- ---- their answers

pub all_modelled : (w : ℕ) (s : List ℕ) → Sound w s → (offs : List ℕ) → AllGranted w s offs → AllInModel (read w s) offs
all_modelled w s S [] h = tt
all_modelled w s S (off ∷ offs) (g, h) = (
  number-granted w s S (Free off) g,
  subst (λ (m : State). AllInModel m offs) (after_read w s S (Free off)) (all_modelled w (after w s (Free off)) (after-sound w s S (Free off)) offs h),
)

pub model_all : (w : ℕ) (s : List ℕ) → Sound w s → (offs : List ℕ) → AllInModel (read w s) offs → AllGranted w s offs
model_all w s S [] h = tt
model_all w s S (off ∷ offs) (g, h) = (
  granted-number w s S (Free off) g,
  model_all w (after w s (Free off)) (after-sound w s S (Free off)) offs (subst (λ (m : State). AllInModel m offs) (sym (after_read w s S (Free off))) h),
)

-- ---- the first refusal

module _ (w : ℕ) (s : List ℕ) (S : Sound w s) (offs : List ℕ) (k n : ℕ) where
  abbrev there : List ℕ
  there = freed_each w s (take k offs)

  same_answer : (step (read w there) (Free (get_or offs k 0))).answer ≡ (step (after_frees (read w s) (take k offs)) (Free (get_or offs k 0))).answer
  same_answer = ap (λ (m : State). (step m (Free (get_or offs k 0))).answer) (each_read w s S (take k offs))

  pub model_first : FirstInModel (read w s) offs k n → FirstRefusal w s offs k n
  model_first r = record {
    place = r.place;
    before = model_all w s S (take k offs) r.before;
    some = refused-some w there (each-sound w s S (take k offs)) (Free (get_or offs k 0)) n (same_answer ∙ r.number);
    number = refused-number w there (each-sound w s S (take k offs)) (Free (get_or offs k 0)) n (same_answer ∙ r.number);
  }

  pub first_modelled : FirstRefusal w s offs k n → FirstInModel (read w s) offs k n
  first_modelled r = record {
    place = r.place;
    before = all_modelled w s S (take k offs) r.before;
    number = sym same_answer ∙ number-refused w there (each-sound w s S (take k offs)) (Free (get_or offs k 0)) n r.some r.number;
  }
