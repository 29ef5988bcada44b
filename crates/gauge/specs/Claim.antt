-- What is promised of the gauge beyond its equations, each citing definitions only.
-- Numbers are compared by whole numbers: m · 2 ^ e is m * up e / down e.
use Rattle.std.specs.Prelude.{◌≡◌, ◌⊎◌, false, List, [], ◌∷◌, ℕ, suc, ◌+◌, ◌-◌, ◌*◌, ◌/◌, ◌^◌, ◌≤◌, ◌<◌, leb, length, drop, Float}
use Rattle.std.specs.Float.{nan, inf, fin}
use Rattle.std.specs.Float.Ieee.{up, down}
use Rattle.base.specs.Lists.{keep}
use Rattle.answers.specs.Outcome.{granted, refused}
use Rattle.answers.specs.declared.Refusal.TheVariants.{OutOfRange}
use Rattle.gauge.specs.declared.Gauge.{Gauge}
use Rattle.gauge.specs.Gauge.{fresh, blank, start_outcome, started, sample_outcome, sampled, trip_outcome}

-- ---- in plain form; -0 counts as 0

-- a number from 0 to b
abbrev pub UpTo : (b : ℕ) → Float → Type 0
UpTo b nan = ⊥
UpTo b (inf s) = ⊥
UpTo b (fin s m e) = ((s ≡ false) ⊎ (m ≡ 0)) × (m * up e ≤ b * down e)

-- the number a / c
abbrev pub Is : Float → (a c : ℕ) → Type 0
Is nan a c = ⊥
Is (inf s) a c = ⊥
Is (fin s m e) a c = ((s ≡ false) ⊎ (m ≡ 0)) × (m * up e * c ≡ a * down e)

-- of two numbers from 0 on, the first is the larger
abbrev pub Above : Float → Float → Type 0
Above nan y = ⊥
Above (inf s) y = ⊥
Above (fin s m e) nan = ⊥
Above (fin s m e) (inf t) = ⊥
Above (fin s m e) (fin t n d) = n * up d * down e < m * up e * down d

pub record Usable (g : Gauge) : Type 0 where
  pub few : g.samples ≤ 40
  pub load : UpTo 4096 g.load
  pub level : UpTo 4096 g.level

-- ---- the reading after any list of samples

-- the gauge after samples of these counts; a refused one leaves it as it was
abbrev pub sampled_all : Gauge → List ℕ → Gauge
sampled_all g [] = g
sampled_all g (n ∷ ns) = sampled_all (sampled g n) ns

-- the counts that are not refused
abbrev pub taken : List ℕ → List ℕ
taken ns = keep (λ n. leb n 4096) ns

-- those of the last round: 40 make a round, and the next begins another
abbrev pub round_of : List ℕ → List ℕ
round_of ns = drop (40 * ((length ns - 1) / 40)) ns

-- each count times 2 to the power of the samples before it, of which k came before the list
unfoldable pub weighed : ℕ → List ℕ → ℕ
weighed k [] = 0
weighed k (n ∷ ns) = n * 2 ^ k + weighed (suc k) ns

-- the reading after samples of counts of which `round` is the last round: load times 2 to the power of its samples is the weighed sum
pub record Reads (h : Gauge) (round : List ℕ) : Type 0 where
  pub samples : h.samples ≡ length round
  pub load : Is h.load (weighed 0 round) (2 ^ length round)

-- ---- all of them

pub record Claims : Type 0 where
  -- a level is refused with 15 exactly when it is no number from 0 to 4,096
  pub start-granted : (l : Float) → UpTo 4096 l → (start_outcome l ≡ granted 0) × (started l ≡ fresh l)
  pub start-refused : (l : Float) → ¬ UpTo 4096 l → (start_outcome l ≡ refused OutOfRange) × (started l ≡ blank)
  -- a sample is refused with 15 exactly when the gauge is not usable or the count is above 4,096; granted, it leaves a usable gauge and its level
  pub sample_granted : (g : Gauge) (n : ℕ) → Usable g → n ≤ 4096 →
      (sample_outcome g n ≡ granted 0) × Usable (sampled g n) × ((sampled g n).level ≡ g.level)
  pub sample_refused : (g : Gauge) (n : ℕ) → ¬ (Usable g × (n ≤ 4096)) → (sample_outcome g n ≡ refused OutOfRange) × (sampled g n ≡ g)
  -- the panel trips exactly when the load is above the level
  pub trips : (g : Gauge) → Usable g → Above g.load g.level → trip_outcome g ≡ granted 1
  pub rests : (g : Gauge) → Usable g → ¬ Above g.load g.level → trip_outcome g ≡ granted 0
  pub trip_refused : (g : Gauge) → ¬ Usable g → trip_outcome g ≡ refused OutOfRange
  -- in a round begun at 0 the reading is exact, after every list of samples
  pub exact : (g : Gauge) → g.samples ≡ 0 → Is g.load 0 1 → UpTo 4096 g.level → (ns : List ℕ) → Reads (sampled_all g ns) (round_of (taken ns))
  -- after 40 samples a round begins at 0, whatever the load
  pub restarts : (g : Gauge) (n : ℕ) → Usable g → g.samples ≡ 40 → n ≤ 4096 → sampled g n ≡ sampled (fresh g.level) n
