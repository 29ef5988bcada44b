-- What the calls on a gauge answer, and the gauge afterwards (SPEC 15), for every gauge, level and count.
-- A load or level is a float: not a number, an infinity, or m · 2 ^ e with a sign, which 0 has too.
use Rattle.std.specs.Prelude.{ℕ, ◌+◌, Bool, false, pos, leb, eqb, Float, Result, Ok, Err}
use Rattle.std.specs.Float.Ieee as Ieee
use Rattle.std.specs.Float.{fin, binary64}
use Rattle.base.specs.Tests.{pick}
use Rattle.base.specs.Count.{bit}
use Rattle.answers.specs.Outcome.{Outcome, granted, refused}
use Rattle.answers.specs.declared.Refusal.{Refusal}
use Rattle.answers.specs.declared.Refusal.TheVariants.{OutOfRange}
use Rattle.gauge.specs.declared.Gauge.{Gauge}

-- ---- answers

abbrev pub of_gauge : Result Gauge Refusal → Outcome
of_gauge (Ok g) = granted 0
of_gauge (Err r) = refused r

-- the gauge afterwards, where it was `kept` before: a refusal leaves it
abbrev pub gauge_in : (kept : Gauge) → Result Gauge Refusal → Gauge
gauge_in kept (Ok g) = g
gauge_in kept (Err r) = kept

abbrev pub of_trip : Result Bool Refusal → Outcome
of_trip (Ok above) = granted (bit above)
of_trip (Err r) = refused r

-- ---- the floats 0, 2 and 4,096

abbrev pub f0 : Float
f0 = fin false 0 (pos 0)

abbrev pub f2 : Float
f2 = fin false 1 (pos 1)

abbrev pub f4096 : Float
f4096 = fin false 1 (pos 12)

-- ---- what is refused

-- a number from 0 to 4,096
unfoldable pub in_range : Float → Bool
in_range x = pick (Ieee.le f0 x) (Ieee.le x f4096) false

unfoldable pub usable : Gauge → Bool
usable g = pick (leb g.samples 40) (pick (in_range g.load) (in_range g.level) false) false

-- the gauge takes a sample of this count
unfoldable pub takes : Gauge → (count : ℕ) → Bool
takes g n = pick (usable g) (leb n 4096) false

-- ---- what a sample does

-- half the old load plus half the new count
unfoldable pub halves : (load : Float) (count : ℕ) → Float
halves x n = Ieee.add binary64 (Ieee.div binary64 x f2) (Ieee.div binary64 (Ieee.of_int binary64 (pos n)) f2)

-- the load starts at 0
unfoldable pub fresh : (level : Float) → Gauge
fresh l = record { load = f0; level = l; samples = 0 }

-- after 40 samples the gauge restarts at 0 before the next
unfoldable pub begun : Gauge → Gauge
begun g = pick (eqb g.samples 40) (fresh g.level) g

unfoldable pub advanced : Gauge → (count : ℕ) → Gauge
advanced g n = record { load = halves g.load n; level = g.level; samples = g.samples + 1 }

-- ---- the calls

-- no gauge: what a refused start leaves
abbrev pub blank : Gauge
blank = record { load = f0; level = f0; samples = 0 }

unfoldable pub start_outcome : (level : Float) → Outcome
start_outcome l = pick (in_range l) (granted 0) (refused OutOfRange)

unfoldable pub started : (level : Float) → Gauge
started l = pick (in_range l) (fresh l) blank

unfoldable pub sample_outcome : Gauge → (count : ℕ) → Outcome
sample_outcome g n = pick (takes g n) (granted 0) (refused OutOfRange)

unfoldable pub sampled : Gauge → (count : ℕ) → Gauge
sampled g n = pick (takes g n) (advanced (begun g) n) g

-- the panel trips exactly when the load is above the level
unfoldable pub trip_outcome : Gauge → Outcome
trip_outcome g = pick (usable g) (granted (bit (Ieee.lt g.level g.load))) (refused OutOfRange)
