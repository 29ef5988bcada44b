-- A successful list in any order.
use mathlib.Core.Path.{◌≡◌, refl, sym, ◌∙◌}
use mathlib.Core.Logic.{◌⊎◌, inl, inr, ◌≢◌}
use mathlib.Core.List.{List, [], ◌∷◌}
use Prim.Native.Nat.{ℕ, ◌+◌, ◌≤◌, ◌<◌}
use native.Mathlib.Omega.{arith}
use borrow.Author.Tests.{eq-eqb, ne_eqb}
use Rattle.base.specs.Lists.{Mem, NoDup}
use Rattle.base.proofs.Cases.{eq?, lt?}
use Rattle.model.specs.Live.{offset}
use Rattle.model.specs.State.{State}
use Rattle.model.proofs.Claim.{claims}
use Rattle.free_all_model.specs.FreeAll.{done, free_all}
use Rattle.free_all_model.specs.Claim.{Listed, OnWellFormed, times, Reordered, AnyOrder}
use Rattle.free_all_model.proofs.Listed.{on_well_formed}

-- ---- how often a number stands in a list

times_same : (x : ℕ) (ys : List ℕ) → times x (x ∷ ys) ≡ times x ys + 1
times_same x ys = rw (eq-eqb x x refl)

mem-times : (x : ℕ) (xs : List ℕ) → Mem x xs → 1 ≤ times x xs
mem-times x (y ∷ ys) (inl z) = rw (eq-eqb y x (sym z)) (omega arith)
mem-times x (y ∷ ys) (inr m) = omega (arith, mem-times x ys m)
mem-times x [] x'' = elim x'' [ ]

times-mem : (x : ℕ) (xs : List ℕ) → 1 ≤ times x xs → Mem x xs
times-mem x [] h = absurd (omega arith)
times-mem x (y ∷ ys) h = go (eq? y x) (times-mem x ys)
  where
    go : (y ≡ x) ⊎ (y ≢ x) → (1 ≤ times x ys → Mem x ys) → Mem x (y ∷ ys)
    go (inl z) ih = inl (sym z)
    go (inr d) ih = let h' : 1 ≤ times x ys + 0 = rw (ne_eqb y x d) at h in inr (ih (omega arith))

once-times : (xs : List ℕ) → NoDup xs → (x : ℕ) → times x xs ≤ 1
once-times [] h x = omega arith
once-times (y ∷ ys) (n, h) x = go (eq? y x) (lt? (times x ys) 1) (once-times ys h x)
  where
    go : (y ≡ x) ⊎ (y ≢ x) → (times x ys < 1) ⊎ (1 ≤ times x ys) → times x ys ≤ 1 → times x (y ∷ ys) ≤ 1
    go (inl z) (inl l) ih = rw (eq-eqb y x z) (omega arith)
    go (inl z) (inr l) ih = absurd (n (rw z (times-mem x ys l)))
    go (inr d) l ih = rw (ne_eqb y x d) (omega arith)

times-once : (xs : List ℕ) → ((x : ℕ) → times x xs ≤ 1) → NoDup xs
times-once [] h = tt
times-once (y ∷ ys) h = (λ m. omega (arith, h y, times_same y ys, mem-times y ys m), times-once ys (λ x. omega (arith, h x)))

-- ---- reordering

mem_moves : (xs ys : List ℕ) → Reordered xs ys → (x : ℕ) → Mem x xs → Mem x ys
mem_moves xs ys r x m = times-mem x ys (omega (arith, r x, mem-times x xs m))

listed_moves : (s : State) (xs ys : List ℕ) → Reordered xs ys → Listed s xs → Listed s ys
listed_moves s xs ys r L = record {
  once = times-once ys (λ x. omega (arith, r x, once-times xs L.once x));
  live = λ off m. L.live off (mem_moves ys xs (λ x. sym (r x)) off m);
}

pub any_order : AnyOrder
any_order s wf xs ys r d =
    let X : OnWellFormed s xs = on_well_formed s wf xs in
    let Y : OnWellFormed s ys = on_well_formed s wf ys in
    let d' : (free_all s ys).answer ≡ done = Y.done-listed.1 (listed_moves s xs ys r (X.done-listed.0 d)) in
    record {
      done_too = d';
      view = (claims.same_blocks (free_all s ys).after (free_all s xs).after Y.well X.well (Y.size ∙ sym X.size)
          (λ e. (
            λ x. let (l, m) = (Y.left d' e).0 x in (X.left d e).1 (l, λ z. m (mem_moves xs ys r (offset e) z)),
            λ x. let (l, m) = (X.left d e).0 x in (Y.left d' e).1 (l, λ z. m (mem_moves ys xs (λ x. sym (r x)) (offset e) z)),
          ))).view;
    }
