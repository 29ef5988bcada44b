-- The nine classes' numbers, the marks of a page, and what a size asks for.
use mathlib.Core.Path.{◌≡◌, refl}
use mathlib.Core.Logic.{◌⊎◌, inl, inr, ◌≢◌}
use mathlib.Core.Bool.{Bool, true, false, cond, ◌&&◌, not}
use Prim.Native.Nat.{ℕ, zero, suc, ◌+◌, ◌-◌, ◌*◌, ◌/◌, ◌%◌, ◌≤◌, ◌<◌}
use native.Mathlib.Nat.{mul-le-mul_left, div-add-mod', mul-div_right, mul-mod_right}
use native.Mathlib.Omega.{arith}
use lib.Dec.{eqb, leb, ltb}
use lib.Pow.{pow_pos, pow_mono}
use borrow.Author.Tests.{ltb-true, leb-true, leb-false, eqb-true, eqb-false, not-true, not-false, le-leb, eq-eqb, ne_eqb}
use Rattle.base.specs.Search.{least, any}
use Rattle.base.proofs.Cases.{clash, lt?, and_true, cond_case}
use Rattle.base.proofs.Search.{Least, least_spec, any-true, any_false, any_at}
use Rattle.model.specs.Classes.{max_pages, chunk, chunks, own, lowest, has_clear, has_taken, starts_chunk, class_of, pages_for, Need, nothing, chunk_of, pages, need_of}

-- ---- numbers

pub max_pages_lem : (1 ≤ max_pages) × (max_pages ≤ 4096)
max_pages_lem = (omega arith, omega arith)

-- a bitmap lies in its own chunks, or it has none and fits a word of 64 bits
bitmap_fits : ℕ → Bool
bitmap_fits c = cond (eqb (own c) 0) (leb (chunks c) 64) (leb (chunks c) (8 * (chunk c * own c)))

-- one computed test for the nine classes
numbers : ℕ → Bool
numbers c = eqb (chunk c * chunks c) 4096 && (ltb (own c + 1) (chunks c) && bitmap_fits c)

numbers_hold : any (λ c. not (numbers c)) 9 ≡ false
unfolding any least numbers bitmap_fits chunk chunks own
numbers_hold = refl

pub chunk-pos : (c : ℕ) → 1 ≤ chunk c
unfolding chunk
chunk-pos c = pow_pos (c + 3)

pub chunk_inj : (c i j : ℕ) → chunk c * i ≡ chunk c * j → i ≡ j
chunk_inj c i j e = go (lt? i j) (lt? j i)
  where
    go : (i < j) ⊎ (j ≤ i) → (j < i) ⊎ (i ≤ j) → i ≡ j
    go (inl l) z = absurd (omega (arith, mul-le-mul_left (chunk c) l, chunk-pos c))
    go (inr y) (inl l) = absurd (omega (arith, mul-le-mul_left (chunk c) l, chunk-pos c))
    go (inr y) (inr z) = omega arith

module _ (c : ℕ) (h : c ≤ 8) where
  facts : (chunk c * chunks c ≡ 4096) × (own c + 1 < chunks c) × (bitmap_fits c ≡ true)
  unfolding numbers
  facts =
      let t : numbers c ≡ true = not-false (numbers c) (any_false (λ c. not (numbers c)) 9 numbers_hold c (omega arith)) in
      let (x, u) = and_true (eqb (chunk c * chunks c) 4096) (ltb (own c + 1) (chunks c) && bitmap_fits c) t in
      let (y, z) = and_true (ltb (own c + 1) (chunks c)) (bitmap_fits c) u in
      (eqb-true _ _ x, ltb-true _ _ y, z)

  pub chunks-fill : chunk c * chunks c ≡ 4096
  chunks-fill = facts.0

  pub own-few : own c + 1 < chunks c
  own-few = facts.1

  -- the bitmap's bits fit its own chunks, or the page's record
  pub bitmap_in_page : own c ≢ 0 → chunks c ≤ 8 * (chunk c * own c)
  unfolding bitmap_fits
  bitmap_in_page d = leb-true _ _ (rw (ne_eqb (own c) 0 d) at facts.2)

  pub bitmap_in_record : own c ≡ 0 → chunks c ≤ 64
  unfolding bitmap_fits
  bitmap_in_record e = leb-true _ _ (rw (eq-eqb (own c) 0 e) at facts.2)

  -- chunk i ends inside the page
  pub chunk-ends : (i : ℕ) → i < chunks c → chunk c * i + chunk c ≤ 4096
  chunk-ends i l = omega (arith, mul-le-mul_left (chunk c) l, chunks-fill)

  -- a chunk that begins inside the page is one of its chunks
  pub chunk_index : (i : ℕ) → chunk c * i < 4096 → i < chunks c
  chunk_index i l = go (lt? i (chunks c))
    where
      go : (i < chunks c) ⊎ (chunks c ≤ i) → i < chunks c
      go (inl h) = h
      go (inr h) = absurd (omega (arith, mul-le-mul_left (chunk c) h, chunks-fill))

pub class_ok : (n : ℕ) → n ≤ 2048 → class_of n ≤ 8
unfolding class_of chunk
class_ok n h = go (lt? (least (λ c. leb n (chunk c)) 9) 9)
  where
    L : Least (λ c. leb n (chunk c)) 9 (least (λ c. leb n (chunk c)) 9)
    L = least_spec (λ c. leb n (chunk c)) 9

    go : (least (λ c. leb n (chunk c)) 9 < 9) ⊎ (9 ≤ least (λ c. leb n (chunk c)) 9) → least (λ c. leb n (chunk c)) 9 ≤ 8
    go (inl l) = omega arith
    go (inr l) = absurd (clash (le-leb n 2048 h) (L.before 8 (omega arith)))

-- ---- marks

-- the lowest clear mark, where there is one
pub lowest_clear_lem : (c : ℕ) (m : ℕ → Bool) → has_clear c m ≡ true → (lowest c m < chunks c) × (m (lowest c m) ≡ false)
unfolding has_clear lowest
lowest_clear_lem c m e = let (l, t) = any-true (λ i. not (m i)) (chunks c) e in (l, not-true _ t)

pub clear_at : (c : ℕ) (m : ℕ → Bool) (i : ℕ) → i < chunks c → m i ≡ false → has_clear c m ≡ true
unfolding has_clear
clear_at c m i l e = any_at (λ i. not (m i)) (chunks c) i l (rw e)

pub taken_at : (c : ℕ) (m : ℕ → Bool) (i : ℕ) → own c ≤ i → i < chunks c → m i ≡ true → has_taken c m ≡ true
unfolding has_taken
taken_at c m i o l e = any_at (λ i. leb (own c) i && m i) (chunks c) i l (rw (le-leb _ _ o, e))

pub none-taken : (c : ℕ) (m : ℕ → Bool) → has_taken c m ≡ false → (i : ℕ) → own c ≤ i → i < chunks c → m i ≡ false
unfolding has_taken
none-taken c m e i o l = let h : leb (own c) i && m i ≡ false = any_false (λ i. leb (own c) i && m i) (chunks c) e i l in rw (le-leb _ _ o) at h

pub some-taken : (c : ℕ) (m : ℕ → Bool) → has_taken c m ≡ true → (i : ℕ) × (own c ≤ i) × (i < chunks c) × (m i ≡ true)
unfolding has_taken
some-taken c m e =
    let (l, t) = any-true (λ i. leb (own c) i && m i) (chunks c) e in
    let (a, b) = and_true (leb (own c) (least (λ i. leb (own c) i && m i) (chunks c))) (m (least (λ i. leb (own c) i && m i) (chunks c))) t in
    (least (λ i. leb (own c) i && m i) (chunks c), leb-true _ _ a, l, b)

-- the index of the chunk that begins q bytes into a page
pub chunk_start : (c q : ℕ) → starts_chunk c q ≡ true → (q ≡ chunk c * (q / chunk c)) × (own c ≤ q / chunk c)
unfolding starts_chunk
chunk_start c q e =
    let (a, b) = and_true (eqb (q % chunk c) 0) _ e in
    (omega (arith, div-add-mod' q (chunk c), eqb-true (q % chunk c) 0 a), leb-true _ _ b)

-- and where chunk i does
pub starts_chunk_lem : (c i : ℕ) → own c ≤ i → (starts_chunk c (chunk c * i) ≡ true) × (chunk c * i / chunk c ≡ i)
unfolding starts_chunk
starts_chunk_lem c i o = (rw (mul-mod_right (chunk c) i, mul-div_right i (chunk-pos c), le-leb (own c) i o), mul-div_right i (chunk-pos c))

-- ---- sizes

-- a class of the nine, or at least one page
abbrev pub NeedOk : Need → Type 0
NeedOk nothing = Unit {0}
NeedOk (chunk_of c) = c ≤ 8
NeedOk (pages k) = 1 ≤ k

pub need_ok : (n : ℕ) → NeedOk (need_of n)
unfolding need_of pages_for
need_ok n = cond_case NeedOk (eqb n 0) (λ _. tt) (λ e. go (eqb-false n 0 e) (leb n 2048) refl)
  where
    go : n ≢ 0 → (t : Bool) → leb n 2048 ≡ t → NeedOk (cond t (chunk_of (class_of n)) (pages (pages_for n)))
    go z true e = class_ok n (leb-true n 2048 e)
    go z false e = omega (arith, leb-false n 2048 e)

-- ---- classes 8, 16 and 32 keep the bitmap in the page, the others in its record

pub own-some : (c : ℕ) → c < 3 → own c ≢ 0
unfolding own
own-some zero h = omega arith
own-some (suc zero) h = omega arith
own-some (suc (suc zero)) h = omega arith
own-some (suc (suc (suc c))) h = absurd (omega arith)

pub own-none : (c : ℕ) → 3 ≤ c → own c ≡ 0
unfolding own
own-none zero h = absurd (omega arith)
own-none (suc zero) h = absurd (omega arith)
own-none (suc (suc zero)) h = absurd (omega arith)
own-none (suc (suc (suc c))) h = refl

-- a bitmap in the page has whole bytes
pub small-chunks : (c : ℕ) → c < 3 → (d : ℕ) × (chunks c ≡ 8 * d) × (d ≤ 64)
unfolding chunks
small-chunks zero h = (64, refl, omega arith)
small-chunks (suc zero) h = (32, refl, omega arith)
small-chunks (suc (suc zero)) h = (16, refl, omega arith)
small-chunks (suc (suc (suc c))) h = absurd (omega arith)

-- a bitmap in the record has at most 64 marks
pub large-chunks : (c : ℕ) → 3 ≤ c → chunks c ≤ 64
unfolding chunks
large-chunks c h = pow_mono {i = 9 - c} {j = 6} (omega arith)
