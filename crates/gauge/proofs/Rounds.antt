-- Counts in rounds, and the reading after any list of samples.
use Prim.Native.Nat.{ℕ, suc, ◌+◌, ◌-◌, ◌*◌, ◌/◌, ◌^◌, ◌≤◌, ◌<◌}
use mathlib.Core.Path.{◌≡◌, refl, sym, ap, ◌∙◌}
use mathlib.Core.Logic.{◌⊎◌, inl, inr}
use mathlib.Core.Bool.{Bool, true, false, cond}
use mathlib.Core.List.{List, [], ◌∷◌, ◌++◌, append_assoc, append-nil}
use native.Mathlib.Omega.{arith}
use native.Mathlib.Nat.{pow-suc, add-zero, zero-add, mul-le-mul_right}
use lib.Dec.{leb}
use borrow.Author.Tests.{leb-true, leb-false}
use lib.Pow.{pow_pos}
use lib.ListN.{length, drop, length-append, length-drop}
use lib.Seq.{drop-append_seam, drop-append-le}
use lib.Ieee.{Float, nan, inf, fin}
use lib.Ieee.Exact.{HasValue}
use Rattle.gauge.specs.declared.Gauge.{Gauge}
use Rattle.gauge.specs.Gauge.{f0, halves, fresh, advanced, sampled}
use Rattle.gauge.specs.Claim.{Is, UpTo, Usable, taken, round_of, weighed, sampled_all, Reads}
use Rattle.base.proofs.Cases.{lt?}
use Rattle.gauge.proofs.Samples.{begun-full, begun_open}
use Rattle.gauge.proofs.Plain.{sampled-is, sampled-not}
use Rattle.gauge.proofs.Exact.{halves-exact}
use Rattle.gauge.proofs.Ranges.{is-up_to}

weighed_snoc : (k : ℕ) (ns : List ℕ) (n : ℕ) → weighed k (ns ++ (n ∷ [])) ≡ weighed k ns + n * 2 ^ (k + length ns)
unfolding weighed
weighed_snoc k [] n = rw (add-zero k) (omega arith)
weighed_snoc k (m ∷ ns) n =
    let e : suc k + length ns ≡ k + suc (length ns) = omega arith in
    ap (λ (rest : ℕ). m * 2 ^ k + rest) (weighed_snoc (suc k) ns n) ∙ rw e (omega arith)

pub round-few : (ns : List ℕ) → length (round_of ns) ≤ 40
round-few ns = rw length-drop (omega arith)

module _ (ns : List ℕ) (n : ℕ) where
  -- after a whole round a sample begins another
  pub round-full : length (round_of ns) ≡ 40 → round_of (ns ++ (n ∷ [])) ≡ n ∷ []
  round-full h =
      let k : length ns - 40 * ((length ns - 1) / 40) ≡ 40 = sym (length-drop (40 * ((length ns - 1) / 40)) ns) ∙ h in
      let e : 40 * ((length (ns ++ (n ∷ [])) - 1) / 40) ≡ length ns = rw length-append (omega arith) in
      ap (λ (i : ℕ). drop i (ns ++ (n ∷ []))) e ∙ drop-append_seam ns (n ∷ [])

  pub round_open : length (round_of ns) < 40 → round_of (ns ++ (n ∷ [])) ≡ round_of ns ++ (n ∷ [])
  round_open h =
      let k : length ns - 40 * ((length ns - 1) / 40) < 40 = rw length-drop at h in
      let e : 40 * ((length (ns ++ (n ∷ [])) - 1) / 40) ≡ 40 * ((length ns - 1) / 40) = rw length-append (omega arith) in
      ap (λ (i : ℕ). drop i (ns ++ (n ∷ []))) e ∙ drop-append-le (40 * ((length ns - 1) / 40)) ns (n ∷ []) (omega arith)

-- ---- one sample, and all of them

is_of : (x : Float) (a c : ℕ) → HasValue x false a c → Is x a c
is_of nan a c v = v
is_of (inf s) a c v = v
is_of (fin s m e) a c v = (inl v.0, v.1)

-- what is known of a gauge after the counts `done`
record Known (g : Gauge) (done : List ℕ) : Type 0 where
  reading : Reads g (round_of done)
  small : weighed 0 (round_of done) ≤ 4096 * 2 ^ length (round_of done)
  level : UpTo 4096 g.level

known-usable : (g : Gauge) (done : List ℕ) → Known g done → Usable g
known-usable g done k = record {
  few = rw k.reading.samples (round-few done);
  load = is-up_to g.load _ _ 4096 (pow_pos (length (round_of done))) k.small k.reading.load;
  level = k.level;
}

first : (g : Gauge) (done : List ℕ) (n : ℕ) → Known g done → n ≤ 4096 → length (round_of done) ≡ 40 → Known (sampled g n) (done ++ (n ∷ []))
unfolding weighed advanced fresh
first g done n k h f =
    let s : sampled g n ≡ advanced (fresh g.level) n = sampled-is g n (known-usable g done k) h ∙ ap (λ (b : Gauge). advanced b n) (begun-full g (k.reading.samples ∙ f)) in
    let r = round-full done n f in
    let e : 0 + n * 2 ^ 0 ≡ n * 2 ^ 0 + 0 = omega arith in
    record {
      reading = record { samples = rw (s, r); load = rw (s, r) (rw e at (is_of (halves f0 n) (0 + n * 2 ^ 0) (2 ^ 1) (halves-exact f0 0 0 n (inl refl, refl) (omega arith) h (omega arith)))) };
      small = rw r (omega arith);
      level = rw s k.level;
    }

next : (g : Gauge) (done : List ℕ) (n : ℕ) → Known g done → n ≤ 4096 → length (round_of done) < 40 → Known (sampled g n) (done ++ (n ∷ []))
unfolding advanced
next g done n k h f =
    let s : sampled g n ≡ advanced g n = sampled-is g n (known-usable g done k) h ∙ ap (λ (b : Gauge). advanced b n) (begun_open g (λ e. omega arith)) in
    let r = round_open done n f in
    let R = round_of done in
    let w : weighed 0 (R ++ (n ∷ [])) ≡ weighed 0 R + n * 2 ^ length R = weighed_snoc 0 R n ∙ ap (λ (j : ℕ). weighed 0 R + n * 2 ^ j) (zero-add (length R)) in
    let l : length (R ++ (n ∷ [])) ≡ suc (length R) = rw length-append (omega arith) in
    let m : n * 2 ^ length R ≤ 4096 * 2 ^ length R = mul-le-mul_right (2 ^ length R) h in
    let x = halves-exact g.load (weighed 0 R) (length R) n k.reading.load f h k.small in
    record {
      reading = record { samples = rw (s, r, l) (omega arith); load = rw (s, r, w, l) (is_of (halves g.load n) (weighed 0 R + n * 2 ^ length R) (2 ^ suc (length R)) x) };
      small = rw (r, w, l) (omega (arith, pow-suc 2 (length R)));
      level = rw s k.level;
    }

one : (g : Gauge) (done : List ℕ) (n : ℕ) → Known g done → n ≤ 4096 → Known (sampled g n) (done ++ (n ∷ []))
one g done n k h = go (lt? (length (round_of done)) 40)
  where
    go : (length (round_of done) < 40) ⊎ (40 ≤ length (round_of done)) → Known (sampled g n) (done ++ (n ∷ []))
    go (inl f) = next g done n k h f
    go (inr f) = let e : length (round_of done) ≡ 40 = omega (arith, round-few done) in first g done n k h e

all : (g : Gauge) (done ns : List ℕ) → Known g done → Known (sampled_all g ns) (done ++ taken ns)
all g done [] k = rw append-nil k
all g done (n ∷ ns) k = go (leb n 4096) refl (all (sampled g n) (done ++ (n ∷ [])) ns) (all g done ns k)
  where
    go : (t : Bool) → leb n 4096 ≡ t → (Known (sampled g n) (done ++ (n ∷ [])) → Known (sampled_all (sampled g n) ns) ((done ++ (n ∷ [])) ++ taken ns)) →
        Known (sampled_all g ns) (done ++ taken ns) → Known (sampled_all (sampled g n) ns) (done ++ cond t (n ∷ taken ns) (taken ns))
    go true e rest same = rw append_assoc at (rest (one g done n k (leb-true n 4096 e)))
    go false e rest same = rw (sampled-not g n (λ p. omega (arith, leb-false n 4096 e, p.1))) same

pub read-exact : (g : Gauge) → g.samples ≡ 0 → Is g.load 0 1 → UpTo 4096 g.level → (ns : List ℕ) → Reads (sampled_all g ns) (round_of (taken ns))
unfolding weighed
read-exact g s v l ns = (all g [] ns (record { reading = record { samples = s; load = v }; small = omega arith; level = l })).reading
