-- The claims.
use mathlib.Core.Path.{◌≡◌, refl, sym, ap, ◌∙◌}
use mathlib.Core.Logic.{◌⊎◌, ◌≢◌, inl, inr}
use mathlib.Core.Bool.{true, false, true≢false, false≢true}
use Prim.Native.Nat.{ℕ, ◌+◌, ◌≤◌}
use native.Mathlib.Omega.{arith}
use lib.Ieee.{Float}
use Rattle.base.specs.Tests.{pick}
use Rattle.base.proofs.Cases.{decided, eq?}
use Rattle.answers.specs.Outcome.{granted, refused}
use Rattle.answers.specs.declared.Refusal.TheVariants.{OutOfRange}
use Rattle.gauge.specs.declared.Gauge.{Gauge}
use Rattle.gauge.specs.Gauge.{in_range, usable, fresh, blank, begun, advanced, start_outcome, started, sample_outcome, sampled, trip_outcome}
use Rattle.gauge.specs.Claim.{UpTo, Above, Usable, Claims}
use Rattle.gauge.proofs.Samples.{begun-full, begun_open, begun-few}
use Rattle.gauge.proofs.Ranges.{range_in, range_is, above, halves-up_to}
use Rattle.gauge.proofs.Plain.{usable_in, usable-is, takes-is, takes-not, sampled-is, sampled-not}
use Rattle.gauge.proofs.Rounds.{read-exact}

start-granted : (l : Float) → UpTo 4096 l → (start_outcome l ≡ granted 0) × (started l ≡ fresh l)
unfolding start_outcome started pick
start-granted l u = rw (range_is l u) (refl, refl)

start-refused : (l : Float) → ¬ UpTo 4096 l → (start_outcome l ≡ refused OutOfRange) × (started l ≡ blank)
unfolding start_outcome started pick
start-refused l h = rw (decided (in_range l) (λ e. h (range_in l e))) (refl, refl)

-- a round that is begun keeps the level, and its load is in range
begun-level : (g : Gauge) → (begun g).level ≡ g.level
begun-level g = go (eq? g.samples 40)
  where
    go : (g.samples ≡ 40) ⊎ (g.samples ≢ 40) → (begun g).level ≡ g.level
    go (inl e) = rw (begun-full g e) (unfold fresh in refl)
    go (inr e) = rw (begun_open g e)

begun-load : (g : Gauge) → UpTo 4096 g.load → UpTo 4096 (begun g).load
begun-load g u = go (eq? g.samples 40)
  where
    go : (g.samples ≡ 40) ⊎ (g.samples ≢ 40) → UpTo 4096 (begun g).load
    go (inl e) = rw (begun-full g e) (unfold fresh in (inl refl, omega arith))
    go (inr e) = rw (begun_open g e) u

sample_granted : (g : Gauge) (n : ℕ) → Usable g → n ≤ 4096 → (sample_outcome g n ≡ granted 0) × Usable (sampled g n) × ((sampled g n).level ≡ g.level)
unfolding sample_outcome advanced pick
sample_granted g n u h =
    let few : (begun g).samples + 1 ≤ 40 = omega (arith, begun-few g u.few) in
    rw (takes-is g n u h, sampled-is g n u h)
    (refl, record { few = few; load = halves-up_to (begun g).load n (begun-load g u.load) h; level = rw (begun-level g) u.level }, begun-level g)

sample_refused : (g : Gauge) (n : ℕ) → ¬ (Usable g × (n ≤ 4096)) → (sample_outcome g n ≡ refused OutOfRange) × (sampled g n ≡ g)
unfolding sample_outcome pick
sample_refused g n h = rw (takes-not g n h) (refl, sampled-not g n h)

trips : (g : Gauge) → Usable g → Above g.load g.level → trip_outcome g ≡ granted 1
unfolding trip_outcome pick
trips g u a = rw (usable-is g u, above g.load g.level u.load u.level true (λ _. a) (λ e. absurd (true≢false e)))

rests : (g : Gauge) → Usable g → ¬ Above g.load g.level → trip_outcome g ≡ granted 0
unfolding trip_outcome pick
rests g u a = rw (usable-is g u, above g.load g.level u.load u.level false (λ e. absurd (false≢true e)) (λ _. a))

trip_refused : (g : Gauge) → ¬ Usable g → trip_outcome g ≡ refused OutOfRange
unfolding trip_outcome pick
trip_refused g h = rw (decided (usable g) (λ e. h (usable_in g e)))

restarts : (g : Gauge) (n : ℕ) → Usable g → g.samples ≡ 40 → n ≤ 4096 → sampled g n ≡ sampled (fresh g.level) n
restarts g n u e h =
    let f = fresh g.level in
    let v : Usable f = unfold fresh in record { few = omega arith; load = (inl refl, omega arith); level = u.level } in
    let none : f.samples ≢ 40 = unfold fresh in λ z. omega arith in
    sampled-is g n u h ∙ ap (λ (b : Gauge). advanced b n) (begun-full g e ∙ sym (begun_open f none)) ∙ sym (sampled-is f n v h)

pub claims : Claims
claims = record {
  start-granted = start-granted;
  start-refused = start-refused;
  sample_granted = sample_granted;
  sample_refused = sample_refused;
  trips = trips;
  rests = rests;
  trip_refused = trip_refused;
  exact = read-exact;
  restarts = restarts;
}
