-- The chunk of a class by a shift, and the class of a size by tests.
use mathlib.Core.Path.{◌≡◌, refl, sym}
use mathlib.Core.Logic.{◌⊎◌, inl, inr}
use mathlib.Core.Bool.{Bool, true, false, ◌&&◌, not}
use Prim.Native.Nat.{ℕ, ◌+◌, ◌-◌, ◌*◌, ◌%◌, ◌^◌, ◌≤◌, ◌<◌}
use native.Mathlib.Nat.{mul-le-mul}
use native.Mathlib.Omega.{arith}
use lib.Dec.{eqb, leb}
use lib.Pow.{pow_mono}
use borrow.Author.Tests.{eqb-true, leb-true, le-leb, lt-leb, not-false}
use Rattle.base.specs.Tests.{pick}
use Rattle.base.specs.Search.{least, any}
use Rattle.base.proofs.Cases.{lt?, and_true}
use Rattle.base.proofs.Search.{least-is, any_false}
use Rattle.model.specs.Classes.{chunk, class_of}
use Rattle.sizes.specs.Mirror.{up_to64, up_to2048, class_for}

-- as the code shifts, in 32 bits
abbrev left : ℕ → ℕ
left c = 1 * 2 ^ (3 + c) % 4294967296

shifted : ℕ → Bool
shifted c = eqb (left c) (chunk c) && (leb (left c) 2048 && leb 1 (left c))

all_shifted : any (λ c. not (shifted c)) 9 ≡ false
unfolding shifted any least chunk
all_shifted = refl

pub chunk_shifted : (c : ℕ) → c ≤ 8 → (left c ≡ chunk c) × (left c ≤ 2048) × (1 ≤ left c)
unfolding shifted
chunk_shifted c h =
    let t : shifted c ≡ true = not-false (shifted c) (any_false (λ d. not (shifted d)) 9 all_shifted c (omega arith)) in
    let (x, u) = and_true _ _ t in
    let (y, z) = and_true _ _ u in
    (eqb-true _ _ x, leb-true _ _ y, leb-true _ _ z)

-- a chunk's start fits 28 bits
pub start_fits : (a i : ℕ) → a ≤ 2048 → i ≤ 65535 → a * i ≤ 134215680
start_fits a i h k = mul-le-mul h k

-- r is the class where its chunk holds n bytes and the one before does not
class_at : (n r a b : ℕ) → r ≤ 8 → chunk r ≡ b → n ≤ b → (r ≡ 0) ⊎ ((chunk (r - 1) ≡ a) × (a < n)) → r ≡ class_of n
unfolding class_of chunk
class_at n r a b h e k low = sym (least-is (λ c. leb n (chunk c)) 9 r (record { at_most = omega arith; before = before low; passes = λ _. le-leb n (chunk r) (omega arith) }))
  where
    before : (r ≡ 0) ⊎ ((chunk (r - 1) ≡ a) × (a < n)) → (j : ℕ) → j < r → leb n (chunk j) ≡ false
    before (inl z) j l = absurd (omega arith)
    before (inr (x, y)) j l =
        let m : 2 ^ (j + 3) ≤ 2 ^ (r - 1 + 3) = pow_mono {i = j + 3} {j = r - 1 + 3} (omega arith) in
        lt-leb n (chunk j) (omega arith)

-- the tests find the smallest class whose chunk holds n bytes
pub class-is : (n : ℕ) → n ≤ 2048 → class_for n ≡ class_of n
unfolding class_for up_to64 up_to2048 pick chunk
class-is n h = go (lt? 64 n)
  where
    small : (8 < n) ⊎ (n ≤ 8) → (16 < n) ⊎ (n ≤ 16) → (32 < n) ⊎ (n ≤ 32) → n ≤ 64 → up_to64 n ≡ class_of n
    small (inr a) b c d = rw (le-leb n 8 a) (class_at n 0 0 8 (omega arith) refl a (inl refl))
    small (inl a) (inr b) c d = rw (lt-leb n 8 a, le-leb n 16 b) (class_at n 1 8 16 (omega arith) refl b (inr (refl, a)))
    small (inl a) (inl b) (inr c) d = rw (lt-leb n 8 a, lt-leb n 16 b, le-leb n 32 c) (class_at n 2 16 32 (omega arith) refl c (inr (refl, b)))
    small (inl a) (inl b) (inl c) d = rw (lt-leb n 8 a, lt-leb n 16 b, lt-leb n 32 c) (class_at n 3 32 64 (omega arith) refl d (inr (refl, c)))

    large : (128 < n) ⊎ (n ≤ 128) → (256 < n) ⊎ (n ≤ 256) → (512 < n) ⊎ (n ≤ 512) → (1024 < n) ⊎ (n ≤ 1024) → 64 < n → up_to2048 n ≡ class_of n
    large (inr a) b c d l = rw (le-leb n 128 a) (class_at n 4 64 128 (omega arith) refl a (inr (refl, l)))
    large (inl a) (inr b) c d l = rw (lt-leb n 128 a, le-leb n 256 b) (class_at n 5 128 256 (omega arith) refl b (inr (refl, a)))
    large (inl a) (inl b) (inr c) d l =
        rw (lt-leb n 128 a, lt-leb n 256 b, le-leb n 512 c) (class_at n 6 256 512 (omega arith) refl c (inr (refl, b)))
    large (inl a) (inl b) (inl c) (inr d) l =
        rw (lt-leb n 128 a, lt-leb n 256 b, lt-leb n 512 c, le-leb n 1024 d) (class_at n 7 512 1024 (omega arith) refl d (inr (refl, c)))
    large (inl a) (inl b) (inl c) (inl d) l =
        rw (lt-leb n 128 a, lt-leb n 256 b, lt-leb n 512 c, lt-leb n 1024 d) (class_at n 8 1024 2048 (omega arith) refl h (inr (refl, d)))

    go : (64 < n) ⊎ (n ≤ 64) → class_for n ≡ class_of n
    go (inr l) = rw (le-leb n 64 l) (small (lt? 8 n) (lt? 16 n) (lt? 32 n) l)
    go (inl l) = rw (lt-leb n 64 l) (large (lt? 128 n) (lt? 256 n) (lt? 512 n) (lt? 1024 n) l)
