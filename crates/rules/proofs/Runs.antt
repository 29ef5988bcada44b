-- The free runs of a well-formed state by their first page and by their end.
use mathlib.Core.Path.{◌≡◌, refl, sym, ap, subst}
use mathlib.Core.Logic.{inl, inr, ◌≢◌}
use mathlib.Core.Bool.{Bool}
use mathlib.Core.List.{List, [], ◌∷◌}
use Prim.Native.Nat.{ℕ, ◌+◌, ◌-◌, ◌<◌}
use native.Mathlib.Omega.{arith}
use Rattle.base.specs.Lists.{Mem, NoDup}
use Rattle.base.proofs.Cases.{clash}
use Rattle.model.specs.State.{Run}
use Rattle.model.specs.Runs.{end, len_at, starts_at, ends_at}
use Rattle.model.specs.WellFormed.{RunsOk}
use Rattle.model.proofs.Runs.{same_run, Keyed, keyed, starts_at_lem}
use Rattle.rules.specs.Read.{with_lengths}
use Rattle.rules.specs.Drawn.{starts}

pub start-mem : (rs : List Run) (r : Run) → Mem r rs → Mem r.start (starts rs)
start-mem (x ∷ rs) r (inl e) = inl (ap (λ (y : Run). y.start) e)
start-mem (x ∷ rs) r (inr m) = inr (start-mem rs r m)
start-mem [] r x' = elim x' [ ]

pub mem-start : (rs : List Run) (p : ℕ) → Mem p (starts rs) → (r : Run) × Mem r rs × (r.start ≡ p)
mem-start (x ∷ rs) p (inl e) = (x, inl refl, sym e)
mem-start (x ∷ rs) p (inr m) = let (r, k, e) = mem-start rs p m in (r, inr k, e)
mem-start [] p x' = elim x' [ ]

pub lengths-back : (len : ℕ → ℕ) (rs : List Run) → ((r : Run) → Mem r rs → len r.start ≡ r.len) → with_lengths len (starts rs) ≡ rs
lengths-back len [] h = refl
lengths-back len (r ∷ rs) h =
    let e : ◌≡◌ {A = Run} (record { start = r.start; len = len r.start }) r = λ i. record { start = r.start; len = h r (inl refl) i } in
    rw (e, lengths-back len rs (λ x m. h x (inr m)))

-- the run with this key, where there is one
found : (key : Run → ℕ) (q : ℕ) (rs : List Run) → len_at key q rs ≢ 0 → (r : Run) × Mem r rs × (key r ≡ q) × (r.len ≡ len_at key q rs)
unfolding Keyed
found key q rs d = go (keyed key q rs)
  where
    go : Keyed key q rs (len_at key q rs) → (r : Run) × Mem r rs × (key r ≡ q) × (r.len ≡ len_at key q rs)
    go (inl x) = x
    go (inr (z, off)) = absurd (d z)

module _ {g : ℕ → Bool} {rs : List Run} (ok : RunsOk g rs) where
  pub started : (q : ℕ) → starts_at q rs ≢ 0 → (r : Run) × Mem r rs × (r.start ≡ q) × (r.len ≡ starts_at q rs)
  started q d = found (λ x. x.start) q rs d

  pub ended : (q : ℕ) → ends_at q rs ≢ 0 → (r : Run) × Mem r rs × (r.start + r.len ≡ q) × (r.len ≡ ends_at q rs)
  ended q d = found end q rs d

  pub start-some : (r : Run) → Mem r rs → starts_at r.start rs ≢ 0
  start-some r m z = omega (arith, starts_at_lem ok r m, (ok.sound r m).some-page)

  -- no run starts inside a run
  pub inner_start : (r : Run) → Mem r rs → (j : ℕ) → r.start < j → j < r.start + r.len → starts_at j rs ≡ 0
  unfolding Keyed
  inner_start r m j a b = go (keyed (λ x. x.start) j rs)
    where
      go : Keyed (λ x. x.start) j rs (starts_at j rs) → starts_at j rs ≡ 0
      go (inl (x, k, p, l)) =
          absurd (clash ((ok.sound r m).all_free (j - 1) (omega arith) (omega arith)) ((ok.sound x k).low_end (j - 1) (omega arith)))
      go (inr (z, off)) = z

  pub starts-mem : (p : ℕ) → starts_at p rs ≢ 0 → Mem p (starts rs)
  starts-mem p d = let (r, m, e, l) = started p d in subst (λ (q : ℕ). Mem q (starts rs)) e (start-mem rs r m)

  pub starts-once : NoDup (starts rs)
  starts-once = go rs ok.once (λ r m. m)
    where
      go : (qs : List Run) → NoDup qs → ((r : Run) → Mem r qs → Mem r rs) → NoDup (starts qs)
      go [] d h = tt
      go (r ∷ qs) d h = (λ m. twice (mem-start qs r.start m), go qs d.1 (λ x k. h x (inr k)))
        where
          twice : (x : Run) × Mem x qs × (x.start ≡ r.start) → ⊥
          twice (x, k, e) =
              let A = ok.sound x (h x (inr k)) in
              let B = ok.sound r (h r (inl refl)) in
              let z : x ≡ r = same_run A B r.start (omega arith) (omega (arith, A.some-page)) (omega arith) (omega (arith, B.some-page)) in
              d.0 (rw (sym z) k)
