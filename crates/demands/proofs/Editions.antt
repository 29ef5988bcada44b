-- What holds of every slice, whatever its edition.
use mathlib.Core.Path.{◌≡◌, sym, ap, ◌∙◌}
use mathlib.Core.Logic.{◌⊎◌, inl, inr, ◌≢◌}
use mathlib.Core.Bool.{true}
use mathlib.Core.List.{List}
use Prim.Native.Nat.{ℕ, ◌+◌, ◌/◌, ◌%◌, ◌≤◌, ◌<◌}
use native.Mathlib.Omega.{arith}
use lib.Dec.{eqb}
use lib.ListN.{length, get_or}
use borrow.Author.Tests.{eq-eqb, ne_eqb, lt-ltb, le-ltb, le-leb}
use Rattle.base.specs.Tests.{pick}
use Rattle.base.proofs.Cases.{decided, eq?, lt?}
use Rattle.base.proofs.AllBelow.{pick_yes, pick_no}
use Rattle.words.specs.Word.{Bytes, half_at, word_at}
use Rattle.words.proofs.Laws.{word_in}
use Rattle.records.specs.Header.{unpack_header, header_at}
use Rattle.answers.specs.Outcome.{Outcome}
use Rattle.model.specs.Calls.{Call}
use Rattle.format.specs.Format.{shortest, too_long, format_outcome, formatted}
use Rattle.format.proofs.Laws.{short_slice, long_slice, fit-outcome}
use Rattle.rules.specs.Bytes.{rule1, broken_rule}
use Rattle.rules.proofs.Rule1.{rule1-says}
use Rattle.drawing.proofs.Laws.{none-broken, claims as laws-of}
use Rattle.demands.specs.Calls.{after}
use Rattle.demands.specs.Editions.{width_of, format_as_outcome, formatted_as, EditionClaims}
use Rattle.demands.proofs.Calls.{after-sound, demand1}
use Rattle.demands.proofs.Demands.{all-demands}
use Rattle.demands.proofs.PeakClaims.{peak_claims}

-- ---- the first byte

module _ (s : List ℕ) (B : Bytes s) where
  half_top : half_at s 0 / 16777216 ≡ get_or s 0 0
  half_top = omega (arith, B 0, B 1, B 2, B 3)

  word_top : word_at s 0 / 72057594037927936 ≡ get_or s 0 0
  word_top =
      let l : half_at s 4 < 4294967296 = omega (arith, B 4, B 5, B 6, B 7) in
      let a : word_at s 0 / 4294967296 ≡ half_at s 0 = omega arith in
      let b : word_at s 0 / 72057594037927936 ≡ word_at s 0 / 4294967296 / 16777216 = omega arith in
      b ∙ ap (λ (x : ℕ). x / 16777216) a ∙ half_top

  edition-first : 8 ≤ length s → (header_at s).edition ≡ get_or s 0 0
  unfolding header_at unpack_header
  edition-first h =
      rw (word_in s 0 (omega arith)) (ap (λ (x : ℕ). x % 256) word_top ∙ (let b = B 0 in omega arith))

module _ (s : List ℕ) where
  pub second : get_or s 0 0 ≡ 2 → width_of s ≡ 3
  unfolding width_of
  second e = pick_yes _ _ _ (eq-eqb _ _ e)

  pub not_second : get_or s 0 0 ≢ 2 → width_of s ≡ 2
  unfolding width_of
  not_second e = pick_no _ _ _ (ne_eqb _ _ e)

  width_low : 2 ≤ width_of s
  width_low = go (eq? (get_or s 0 0) 2)
    where
      go : (get_or s 0 0 ≡ 2) ⊎ (get_or s 0 0 ≢ 2) → 2 ≤ width_of s
      go (inl e) = omega (arith, second e)
      go (inr e) = omega (arith, not_second e)

  width_high : width_of s ≤ 3
  width_high = go (eq? (get_or s 0 0) 2)
    where
      go : (get_or s 0 0 ≡ 2) ⊎ (get_or s 0 0 ≢ 2) → width_of s ≤ 3
      go (inl e) = omega (arith, second e)
      go (inr e) = omega (arith, not_second e)

module _ (s : List ℕ) (B : Bytes s) where
  told : (w : ℕ) → 2 ≤ w → w ≤ 3 → broken_rule w s ≡ 0 → (get_or s 0 0 + 1 ≡ w) × (width_of s ≡ w)
  told w a b e =
      let R = rule1-says w s (none-broken w s e).0 in
      let f : get_or s 0 0 + 1 ≡ w = omega (arith, R.some, R.edition, edition-first s B (omega (arith, R.some))) in
      (f, go (eq? w 3) f)
    where
      go : (w ≡ 3) ⊎ (w ≢ 3) → get_or s 0 0 + 1 ≡ w → width_of s ≡ w
      go (inl z) f = second s (omega arith) ∙ sym z
      go (inr z) f = not_second s (λ y. z (omega arith)) ∙ omega arith

module _ (s : List ℕ) (B : Bytes s) where
  unknown : get_or s 0 0 ≢ 1 → get_or s 0 0 ≢ 2 → broken_rule (width_of s) s ≡ 1
  unfolding broken_rule
  unknown x y = ap (λ (w : ℕ). broken_rule w s) (not_second s y) ∙ pick_no _ _ _ (decided (rule1 2 s) (λ e. x (one e)))
    where
      one : rule1 2 s ≡ true → get_or s 0 0 ≡ 1
      one e = let R = rule1-says 2 s e in omega (arith, R.edition, edition-first s B (omega (arith, R.some)))

  narrow : width_of s ≤ 255
  narrow = omega (arith, width_high s)

  kept : (call : Call) → width_of (after (width_of s) s call) ≡ width_of s
  kept call = go (eq? (broken_rule (width_of s) s) 0)
    where
      go : (broken_rule (width_of s) s ≡ 0) ⊎ (broken_rule (width_of s) s ≢ 0) → width_of (after (width_of s) s call) ≡ width_of s
      go (inl e) =
          (told (after (width_of s) s call) ((demand1 (width_of s) (width_low s) narrow s B).bytes-kept call) (width_of s) (width_low s) (width_high s)
          (after-sound (width_of s) (width_low s) narrow s B e call)).1
      go (inr d) = ap width_of ((demand1 (width_of s) (width_low s) narrow s B).unsound d call).1

  -- ---- format

  accepted : (w : ℕ) → (format_outcome w (length s)).number ≡ 0 → (shortest w ≤ length s) × (length s < too_long w)
  unfolding format_outcome pick
  accepted w e = go (lt? (length s) (shortest w)) (lt? (length s) (too_long w))
    where
      go : (length s < shortest w) ⊎ (shortest w ≤ length s) → (length s < too_long w) ⊎ (too_long w ≤ length s) → (shortest w ≤ length s) × (length s < too_long w)
      go (inl l) y = let z : ◌≡◌ {A = ℕ} 1 0 = rw (lt-ltb (length s) (shortest w) l) at e in absurd (omega arith)
      go (inr l) (inr k) = let z : ◌≡◌ {A = ℕ} 2 0 = rw (le-ltb (length s) (shortest w) l, le-leb (too_long w) (length s) k) at e in absurd (omega arith)
      go (inr l) (inl k) = (l, k)

  made_at : (w : ℕ) → 2 ≤ w → w ≤ 3 → (format_outcome w (length s)).number ≡ 0 → (get_or (formatted w s) 0 0 + 1 ≡ w) × (broken_rule w (formatted w s) ≡ 0)
  made_at w a b e =
      let (some, most) = accepted w e in
      let L = laws-of w a (omega arith) s B in
      ((told (formatted w s) (L.format_bytes some most) w a b (L.format_sound some most)).0, L.format_sound some most)

  made : (e : ℕ) → (format_as_outcome e (length s)).number ≡ 0 → (get_or (formatted_as e s) 0 0 ≡ e) × (broken_rule (e + 1) (formatted_as e s) ≡ 0)
  unfolding format_as_outcome formatted_as pick
  made e g = go (eq? e 1) (eq? e 2)
    where
      go : (e ≡ 1) ⊎ (e ≢ 1) → (e ≡ 2) ⊎ (e ≢ 2) → (get_or (formatted_as e s) 0 0 ≡ e) × (broken_rule (e + 1) (formatted_as e s) ≡ 0)
      go (inl z) y = rw z (let (a, b) = made_at 2 (omega arith) (omega arith) (rw z at g) in (omega arith, b))
      go (inr x) (inl z) = rw z (let (a, b) = made_at 3 (omega arith) (omega arith) (rw z at g) in (omega arith, b))
      go (inr x) (inr y) = let z : ◌≡◌ {A = ℕ} 3 0 = rw (ne_eqb e 1 x, ne_eqb e 2 y) at g in absurd (omega arith)

module _ (s : List ℕ) where
  left_at : (w : ℕ) → (format_outcome w (length s)).number ≢ 0 → formatted w s ≡ s
  left_at w d = go (lt? (length s) (shortest w)) (lt? (length s) (too_long w))
    where
      go : (length s < shortest w) ⊎ (shortest w ≤ length s) → (length s < too_long w) ⊎ (too_long w ≤ length s) → formatted w s ≡ s
      go (inl l) y = sym (short_slice w s l)
      go (inr l) (inr k) = sym (long_slice w s l k)
      go (inr l) (inl k) = absurd (d (sym (ap (λ (o : Outcome). o.number) (fit-outcome w s l k))))

  left : (e : ℕ) → (format_as_outcome e (length s)).number ≢ 0 → formatted_as e s ≡ s
  unfolding format_as_outcome formatted_as pick
  left e d = go (eq? e 1) (eq? e 2)
    where
      go : (e ≡ 1) ⊎ (e ≢ 1) → (e ≡ 2) ⊎ (e ≢ 2) → formatted_as e s ≡ s
      go (inl z) y = rw z (left_at 2 (rw z at d))
      go (inr x) (inl z) = rw z (left_at 3 (rw z at d))
      go (inr x) (inr y) = rw (ne_eqb e 1 x) (pick_no (eqb e 2) (formatted 3 s) s (ne_eqb e 2 y))

pub edition_claims : EditionClaims
edition_claims s B = record {
  unknown = unknown s B;
  told = told s B;
  kept = kept s B;
  made = made s B;
  left = left s;
  demands = all-demands (width_of s) (width_low s) (narrow s B) s B;
  peaking = λ e c h. peak_claims 3 (omega arith) (omega arith) s B c h;
}
