-- The ways of put, find and remove, by what the code tests.
use mathlib.Core.Path.{◌≡◌, refl, sym, ap, ◌∙◌}
use mathlib.Core.Logic.{◌⊎◌, inl, inr, ◌≢◌}
use mathlib.Core.Bool.{Bool, true, false, cond}
use mathlib.Core.List.{List}
use Prim.Native.Nat.{ℕ, ◌%◌, ◌≤◌, ◌<◌}
use native.Mathlib.Omega.{arith}
use lib.Dec.{eqb}
use lib.ListN.{length, set}
use borrow.Author.Tests.{eq-eqb, ne_eqb, eqb-true, lt-ltb, le-ltb, le-leb, lt-leb}
use Rattle.base.specs.Tests.{pick}
use Rattle.base.proofs.Tests.{both_true}
use Rattle.base.proofs.Cases.{lt?}
use Rattle.base.proofs.AllBelow.{pick_yes, pick_no}
use Rattle.words.specs.Word.{Bytes}
use Rattle.records.specs.Layout.{page_count}
use Rattle.answers.specs.Outcome.{Outcome, granted, refused}
use Rattle.answers.specs.declared.Refusal.TheVariants.{NotSound, NothingAsked, WrongLength, NoPlace, NotHeld}
use Rattle.model.specs.Calls.{Alloc, Free}
use Rattle.rules.specs.Bytes.{broken_rule, read}
use Rattle.demands.specs.Calls.{answered, after}
use Rattle.demands.proofs.Facts.{few}
use Rattle.free_sound.specs.Mirror.{free_outcome, free_slice}
use Rattle.sound_pools.specs.Sound.{Validated}
use Rattle.sound_pools.proofs.Validated.{free_does}
use Rattle.keeper_model.specs.Store.{slot, first_empty}
use Rattle.keeper_model.specs.Directory.{directory_ok}
use Rattle.keeper_model.specs.Requests.{place_for}
use Rattle.keeper_words.specs.Words.{entries}
use Rattle.keeper_bytes.specs.Requests.{store_of, both_sound, Left, refuse_left, put_answered, put_left, place_of, find_left, remove_left}
use Rattle.keeper_put.specs.Mirror.{Ready, Putting}
use Rattle.keeper_calls.specs.Mirror.{slot_in, place_in, looked_up}

-- what is left, part by part
pub told : {l m : Left} → m ≡ l → (l.outcome ≡ m.outcome) × ((l.pool ≡ m.pool) × (l.words ≡ m.words))
told e = (sym (ap (λ (l : Left). l.outcome) e), (sym (ap (λ (l : Left). l.pool) e), sym (ap (λ (l : Left). l.words) e)))

-- a free on a validated pool
pub given_met : {w : ℕ} {s : List ℕ} {pages : ℕ} → Validated w s pages → (off : ℕ) {o : Outcome} {u : List ℕ} →
    o ≡ free_outcome w s pages off → u ≡ free_slice w s pages off → (o ≡ answered w s (Free off)) × (u ≡ after w s (Free off))
given_met G off a b = let M = free_does G off in (a ∙ M.0, b ∙ M.1)

-- ---- the test of both

module _ (w : ℕ) (s d : List ℕ) where
  pub no_pool : eqb (broken_rule w s) 0 ≡ false → false ≡ both_sound w s d
  unfolding both_sound
  no_pool e = sym (pick_no _ _ _ e)

  pub pool_then : eqb (broken_rule w s) 0 ≡ true → directory_ok (read w s) (length d) (entries d) ≡ both_sound w s d
  unfolding both_sound
  pool_then e = sym (pick_yes _ _ _ e)

  pub ready : 2 ≤ w → w ≤ 255 → Bytes s → both_sound w s d ≡ true → (pages : ℕ) → pages ≡ page_count w (length s) % 65536 → Ready w s d pages
  unfolding both_sound
  ready wide narrow B e pages p =
      let (a, b) = both_true (eqb (broken_rule w s) 0) (directory_ok (read w s) (length d) (entries d)) e in
      let z : broken_rule w s ≡ 0 = eqb-true _ _ a in
      record {
        validated = record { pool = record { wide = wide; narrow = narrow; bytes = B; sound = z }; counted = p ∙ omega (arith, few w wide narrow s B z) };
        directory = b;
      }

  pub ready-both : {pages : ℕ} → Ready w s d pages → both_sound w s d ≡ true
  unfolding both_sound
  ready-both R = pick_yes _ _ _ (eq-eqb _ _ R.validated.pool.sound) ∙ R.directory

-- ---- places

pick-cond : {A : Type 0} (t : Bool) (a b : A) → pick t a b ≡ cond t a b
unfolding pick
pick-cond true a b = refl
pick-cond false a b = refl

pub place_is : (w : ℕ) (s d : List ℕ) (key : ℕ) → place_in d key ≡ place_for (store_of w s d) key
unfolding place_in place_for slot_in slot first_empty
place_is w s d key = pick-cond _ _ _

slot_is : (w : ℕ) (s d : List ℕ) (key : ℕ) → slot_in d key ≡ slot (store_of w s d) key
unfolding slot_in slot
slot_is w s d key = refl

-- ---- put

module _ (w : ℕ) (s d : List ℕ) (key : ℕ) (r : List ℕ) where
  pub put-unsound : both_sound w s d ≡ false → put_left w s d key r ≡ refuse_left s d NotSound
  unfolding put_left
  put-unsound e = pick_no _ _ _ e

  module _ (e : both_sound w s d ≡ true) where
    pub put_empty : length r ≡ 0 → put_left w s d key r ≡ refuse_left s d NothingAsked
    unfolding put_left
    put_empty h = pick_yes _ _ _ e ∙ pick_yes _ _ _ (eq-eqb _ _ h)

    module _ (some : length r ≢ 0) where
      pub put-long : 65535 < length r → put_left w s d key r ≡ refuse_left s d WrongLength
      unfolding put_left
      put-long h = pick_yes _ _ _ e ∙ pick_no _ _ _ (ne_eqb _ _ some) ∙ pick_yes _ _ _ (lt-ltb _ _ h)

      module _ (short : length r ≤ 65535) where
        pub put_full : length d ≤ place_in d key → put_left w s d key r ≡ refuse_left s d NoPlace
        unfolding put_left
        put_full h =
            pick_yes _ _ _ e ∙ pick_no _ _ _ (ne_eqb _ _ some) ∙ pick_no _ _ _ (le-ltb _ _ short)
            ∙ pick_yes _ _ _ (le-leb _ _ (rw (place_is w s d key) at h))

        pub putting : place_in d key < length d → Putting w s d (place_in d key) key r
        putting h = record { some = omega arith; short = short; place = place_is w s d key; inside = h }

        pub put-placed : place_in d key < length d → put_left w s d key r ≡ put_answered w s d (place_in d key) key r (answered w s (Alloc (length r)))
        unfolding put_left
        put-placed h =
            pick_yes _ _ _ e ∙ pick_no _ _ _ (ne_eqb _ _ some) ∙ pick_no _ _ _ (le-ltb _ _ short)
            ∙ pick_no _ _ _ (lt-leb _ _ (rw (place_is w s d key) at h))
            ∙ ap (λ (i : ℕ). put_answered w s d i key r (answered w s (Alloc (length r)))) (sym (place_is w s d key))

-- ---- find and remove

module _ (w : ℕ) (s d : List ℕ) (key : ℕ) where
  pub find-unsound : both_sound w s d ≡ false → find_left w s d key ≡ refuse_left s d NotSound
  unfolding find_left
  find-unsound e = pick_no _ _ _ e

  pub remove-unsound : both_sound w s d ≡ false → remove_left w s d key ≡ refuse_left s d NotSound
  unfolding remove_left
  remove-unsound e = pick_no _ _ _ e

  module _ (e : both_sound w s d ≡ true) where
    pub remove-none : length d ≤ slot_in d key → remove_left w s d key ≡ refuse_left s d NotHeld
    unfolding remove_left
    remove-none h = pick_yes _ _ _ e ∙ pick_no _ _ _ (le-ltb _ _ (rw (slot_is w s d key) at h))

    pub remove_held : slot_in d key < length d → remove_left w s d key ≡ record {
      outcome = answered w s (Free (entries d (slot_in d key)).off);
      pool = after w s (Free (entries d (slot_in d key)).off);
      words = set d (slot_in d key) 0;
    }
    unfolding remove_left slot_in slot
    remove_held h = pick_yes _ _ _ e ∙ pick_yes _ _ _ (lt-ltb _ _ h)

    find_none : length d ≤ slot_in d key → find_left w s d key ≡ refuse_left s d NotHeld
    unfolding find_left
    find_none h = pick_yes _ _ _ e ∙ pick_no _ _ _ (le-ltb _ _ (rw (slot_is w s d key) at h))

    find_held : slot_in d key < length d → find_left w s d key ≡ record { outcome = granted (place_of (entries d (slot_in d key))); pool = s; words = d }
    unfolding find_left slot_in slot
    find_held h = pick_yes _ _ _ e ∙ pick_yes _ _ _ (lt-ltb _ _ h)

-- a find of a key that is not held, in a directory that is sound
pub find_unheld : (w : ℕ) (s d : List ℕ) (key pages : ℕ) → Ready w s d pages → length d ≤ slot_in d key → (find_left w s d key).outcome ≡ refused NotHeld
find_unheld w s d key pages R h = ap (λ (l : Left). l.outcome) (find_none w s d key (ready-both w s d R) h)

-- what is looked up
module _ (d : List ℕ) (key : ℕ) where
  pub looked_none : length d ≤ slot_in d key → refused NotHeld ≡ looked_up d key
  unfolding looked_up
  looked_none h = sym (pick_yes _ _ _ (le-leb _ _ h))

  pub looked_held : slot_in d key < length d → granted (place_of (entries d (slot_in d key))) ≡ looked_up d key
  unfolding looked_up
  looked_held h = sym (pick_no _ _ _ (lt-leb _ _ h))

  pub find_looked : (w : ℕ) (s : List ℕ) → both_sound w s d ≡ true → looked_up d key ≡ (find_left w s d key).outcome
  find_looked w s e = go (lt? (slot_in d key) (length d))
    where
      go : (slot_in d key < length d) ⊎ (length d ≤ slot_in d key) → looked_up d key ≡ (find_left w s d key).outcome
      go (inl h) = sym (looked_held h) ∙ sym (ap (λ (l : Left). l.outcome) (find_held w s d key e h))
      go (inr h) = sym (looked_none h) ∙ sym (ap (λ (l : Left). l.outcome) (find_none w s d key e h))
