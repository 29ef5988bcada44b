-- What the types of the arrays say of a plain state: lengths, and the bounds of asks and failures.
use mathlib.Core.Path.{◌≡◌}
use mathlib.Core.List.{List, [], ◌∷◌}
use Prim.Native.Nat.{ℕ, zero, suc, ◌≤◌, ◌<◌}
use native.Mathlib.Omega.{arith}
use lib.ListN.{length, get_or}
use mir.Val.{Val}
use base.Fml.{Fml}
use denote.Shadow.{shadow}
use denote.Array.{each}
use Rattle.model.specs.State.{most}
use Rattle.plain.specs.Plain.{plain_of, no_counts}
use Rattle.plain.specs.declared.Extent.{Extent}
use Rattle.plain.specs.declared.Kept.{Kept}
use Rattle.plain.specs.declared.Counts.{Counts}
use Rattle.plain.specs.contracts.Counts as counts
use Rattle.plain.proofs.Shapes.{Tables}
use Rattle.plain_rules.specs.Sound.{Tallied}

each_at : (d : Type 0) (f : d → List Val → Fml) (P : d → Type 0) (z : d) → P z → ((x : d) (u : Val) → shadow (f x (u ∷ [])) → P x) → (xs : List d) (us : List Val) (i : ℕ)
    → shadow (each d f xs us) → P (get_or xs i z)
each_at d f P z pz h [] us i s = pz
each_at d f P z pz h (x ∷ xs) [] i s = absurd s
each_at d f P z pz h (x ∷ xs) (u ∷ us) zero s = h x u s.0
each_at d f P z pz h (x ∷ xs) (u ∷ us) (suc i) s = each_at d f P z pz h xs us i s.1

module _ (l : List Counts) (us : List Val) (s : shadow (each _ counts.the_row.own_val l us)) (c : ℕ) where
  pub reqs-fit : (get_or l c no_counts).reqs ≤ most
  unfolding no_counts most
  reqs-fit =
      let e = each_at _ counts.the_row.own_val (λ x. x.reqs < 4294967296) no_counts (omega arith) (λ x u p. p.1.1.1.1.0.1) l us c s in
      omega arith

  pub fails-fit : (get_or l c no_counts).fails ≤ most
  unfolding no_counts most
  fails-fit =
      let e = each_at _ counts.the_row.own_val (λ x. x.fails < 4294967296) no_counts (omega arith) (λ x u p. p.1.1.1.1.1.0.1) l us c s in
      omega arith

module _ (s : Kept) where
  pub tables-known : length s.pages ≡ 12 → length s.ready ≡ 12 → length s.counts ≡ 9 → (t : List Extent) → length t ≡ 12 → Tables (plain_of s t)
  tables-known pages ready tallies t long = record { runs = long; pages = pages; ready = ready; counts = tallies }

  pub tallied-known : (us : List Val) → shadow (each _ counts.the_row.own_val s.counts us) → (t : List Extent) → Tallied (plain_of s t)
  tallied-known us h t = record { reqs = reqs-fit s.counts us h; fails = fails-fit s.counts us h }
