-- A fresh pool is well formed and has no live block.
use mathlib.Core.Path.{◌≡◌, refl}
use mathlib.Core.Logic.{◌⊎◌, inl, inr, ◌≢◌}
use mathlib.Core.Bool.{Bool, true, false, cond}
use mathlib.Core.List.{[], ◌∷◌}
use Prim.Native.Nat.{ℕ, ◌+◌, ◌≤◌, ◌<◌}
use native.Mathlib.Omega.{arith}
use lib.Dec.{ltb}
use borrow.Author.Tests.{lt-ltb, le-ltb}
use Rattle.base.specs.Lists.{Mem}
use Rattle.base.proofs.Cases.{never, lt?}
use Rattle.model.specs.State.{Page, idle, taken, inside, edge, Run, is_idle, is_open}
use Rattle.model.specs.WellFormed.{PageOk, Stretch, WellFormed}
use Rattle.model.specs.Calls.{fresh}
use Rattle.model.specs.Live.{Block, On, Live}

module _ (P : ℕ) where
  fresh-edge : (p : ℕ) → (p < P) ⊎ (P ≤ p) → cond (ltb p P) idle edge ≡ edge → P ≤ p
  fresh-edge p (inl l) e = absurd (never (cc (lt-ltb p P l)))
  fresh-edge p (inr l) e = l

  -- a page of a fresh pool is free or past the end
  fresh-page : (Q : Page → Type 0) → Q idle → Q edge → (t : Bool) → Q (cond t idle edge)
  fresh-page Q a b true = a
  fresh-page Q a b false = b

  pub fresh_empty : (e : Block) → ¬ Live (fresh P).page e
  unfolding fresh Live On
  fresh_empty e (p, x) = fresh-page (λ y. ¬ On y p e) (λ z. z) (λ z. z) (ltb p P) x

  pub fresh-well : 1 ≤ P → WellFormed (fresh P)
  unfolding fresh is_open
  fresh-well h = record {
    some-page = h;
    table = record {
      each = λ p. fresh-page PageOk tt tt (ltb p P);
      past = λ p l. rw (le-ltb p P l);
      ends = λ p e. fresh-edge p (lt? p P) e;
      inner = λ p n j e. absurd (fresh-page (λ y. y ≢ taken n) (λ z. never (cc)) (λ z. never (cc)) (ltb p P) e);
      owner = λ j e. absurd (fresh-page (λ y. y ≢ inside) (λ z. never (cc)) (λ z. never (cc)) (ltb j P) e);
    };
    free_runs = record {
      once = (λ m. m, tt);
      sound = sound;
      covers = λ j e. (record { start = 0; len = P }, inl refl, omega arith, covers j (lt? j P) e);
    };
    class-lists = record {
      once = λ c. tt;
      holds = λ c p m. absurd m;
      all = λ c p e. absurd (fresh-page (λ y. is_open c y ≢ true) (λ z. never (cc)) (λ z. never (cc)) (ltb p P) e);
    };
    tallies = λ c. record { reqs-fit = omega arith; fails-fit = omega arith; none-past = λ z. refl };
  }
    where
      covers : (j : ℕ) → (j < P) ⊎ (P ≤ j) → is_idle (cond (ltb j P) idle edge) ≡ true → j < 0 + P
      covers j (inl l) e = omega arith
      covers j (inr l) e = absurd (never (cc (le-ltb j P l)))

      free_at_lem : (j : ℕ) → j < P → is_idle (cond (ltb j P) idle edge) ≡ true
      free_at_lem j l = rw (lt-ltb j P l)

      sound : (r : Run) → Mem r (record { start = 0; len = P } ∷ []) → Stretch (λ j. is_idle (cond (ltb j P) idle edge)) r
      sound r (inl q) = rw q (record {
        some-page = h;
        all_free = λ j a b. free_at_lem j (omega arith);
        low_end = λ j a. absurd (omega arith);
        high_end = λ j a. rw (le-ltb j P (omega arith));
      })
      sound r (inr x') = elim x' [ ]
