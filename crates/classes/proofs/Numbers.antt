-- The nine classes' numbers, as the code has them.
use mathlib.Core.Path.{◌≡◌, refl}
use mathlib.Core.Logic.{⊎_elim, ◌≢◌}
use mathlib.Core.Bool.{false, not}
use Prim.Native.Nat.{ℕ, zero, suc, ◌+◌, ◌-◌, ◌*◌, ◌/◌, ◌%◌, ◌^◌, ◌≤◌, ◌<◌}
use native.Mathlib.Nat.{mul-le-mul_left}
use native.Mathlib.Omega.{arith}
use borrow.Author.Rules.{rules}
use lib.Pow.{pow_pos, pow_mono}
use lib.Dec.{eqb, leb}
use borrow.Author.Tests.{lt-ltb, le-ltb, leb-true, eqb-true, not-false}
use Rattle.base.specs.Tests.{pick}
use Rattle.base.specs.Search.{least, any}
use Rattle.base.proofs.Cases.{lt?}
use Rattle.base.proofs.Search.{any_false}
use Rattle.records.specs.Layout.{map_place, pages_from}
use Rattle.model.specs.Classes.{chunks, own}
use Rattle.model.specs.State.{most}
use Rattle.model.specs.Calls.{raise}
use Rattle.rules.specs.Bytes.{map_base}
use Rattle.map_count.specs.Mirror.{map_bits}
use Rattle.classes.specs.Mirror.{map_word, own_word}

pub chunks-some : (c : ℕ) → 1 ≤ chunks c
unfolding chunks
chunks-some c = pow_pos (9 - c)

pub chunks_512 : (c : ℕ) → chunks c ≤ 512
unfolding chunks
chunks_512 c = let k : 9 - c ≤ 9 = omega arith in pow_mono k

-- one computed test for the nine classes
shifts : any (λ c. not (eqb (512 / 2 ^ c) (chunks c))) 9 ≡ false
unfolding any least chunks
shifts = refl

pub chunks_shifted : (c : ℕ) → c < 9 → 512 / 2 ^ c ≡ chunks c
chunks_shifted c h = eqb-true _ _ (not-false _ (any_false (λ d. not (eqb (512 / 2 ^ d) (chunks d))) 9 shifts c h))

pub chunks_past : (c : ℕ) → 9 ≤ c → 1 ≡ chunks c
unfolding chunks
chunks_past c h = let z : 9 - c ≡ 0 = omega arith in rw z

pub own_8 : (c : ℕ) → c ≡ 0 → 8 ≡ own c
unfolding own
own_8 c e = rw e

pub own_16 : (c : ℕ) → c ≡ 1 → 2 ≡ own c
unfolding own
own_16 c e = rw e

pub own_32 : (c : ℕ) → c ≡ 2 → 1 ≡ own c
unfolding own
own_32 c e = rw e

pub own-past : (c : ℕ) → 3 ≤ c → 0 ≡ own c
unfolding own
own-past zero h = absurd (omega arith)
own-past (suc zero) h = absurd (omega arith)
own-past (suc (suc zero)) h = absurd (omega arith)
own-past (suc (suc (suc c))) h = refl

-- and one that the map leaves chunks to callers
left : any (λ c. not (leb (own c) (chunks c))) 9 ≡ false
unfolding any least chunks own
left = refl

pub own-least : (c : ℕ) → own c ≤ chunks c
own-least c = ⊎_elim (λ h. leb-true _ _ (not-false _ (any_false (λ d. not (leb (own d) (chunks d))) 9 left c h))) (λ h. omega (arith, own-past c (omega arith))) (lt? c 9)

pub bytes_8 : (c : ℕ) → c ≡ 0 → 64 ≡ map_bits c / 8
unfolding map_bits pick chunks
bytes_8 c e = rw e

pub bytes_16 : (c : ℕ) → c ≡ 1 → 32 ≡ map_bits c / 8
unfolding map_bits pick chunks
bytes_16 c e = rw e

pub bytes_32 : (c : ℕ) → c ≡ 2 → 16 ≡ map_bits c / 8
unfolding map_bits pick chunks
bytes_32 c e = rw e

pub bytes_past : (c : ℕ) → 3 ≤ c → 8 ≡ map_bits c / 8
unfolding map_bits pick
bytes_past c h = rw (le-ltb c 3 h)

-- ---- where a map begins

module _ (w P p c : ℕ) where
  pub word_paged : c < 3 → map_word w P p c ≡ 1 + 9 * w + 2 * P + 512 * p
  unfolding map_word pick
  word_paged h = rw (lt-ltb c 3 h)

  pub word_recorded : 3 ≤ c → map_word w P p c ≡ map_place w p
  unfolding map_word pick
  word_recorded h = rw (le-ltb c 3 h)

  pub base_paged : c < 3 → map_base w P p c ≡ pages_from w P + 4096 * p
  unfolding map_base pick
  base_paged h = rw (lt-ltb c 3 h)

  pub base_recorded : 3 ≤ c → map_base w P p c ≡ 8 * map_place w p
  unfolding map_base pick
  base_recorded h = rw (le-ltb c 3 h)

-- ---- words that lie in a slice of n words, which has all of the records and pages

module _ (w P n : ℕ) (wide : 2 ≤ w) (whole : 1 + 9 * w + 514 * P ≤ n) where
  pub tally-whole : (c : ℕ) → c ≤ 8 → 2 + w * c < n
  tally-whole c h = omega (arith, mul-le-mul_left w h)

  module _ (p : ℕ) (below : p < P) where
    pub links-whole : 2 + 9 * w + 2 * p < n
    links-whole = omega arith

    -- a map has eight words at most, and another follows
    pub map_whole : (c : ℕ) → map_word w P p c + 8 < n
    map_whole c =
        ⊎_elim (λ (h : c < 3). rw (word_paged w P p c h) (omega arith)) (λ (h : 3 ≤ c). rw (word_recorded w P p c h) (omega arith)) (lt? c 3)

-- ---- a tally

pub raise_more : (n : ℕ) → n < 4294967295 → n + 1 ≡ raise n
unfolding raise most
raise_more n h = rw (lt-ltb n 4294967295 h) (omega arith)

pub raise-stops : (n : ℕ) → 4294967295 ≤ n → n ≡ raise n
unfolding raise most
raise-stops n h = rw (le-ltb n 4294967295 h)

pub own-small : (c : ℕ) → own c ≤ 8
unfolding own
own-small zero = omega arith
own-small (suc zero) = omega arith
own-small (suc (suc zero)) = omega arith
own-small (suc (suc (suc c))) = omega arith

-- without a choice, for the nine classes
digits : any (λ c. not (eqb (296 / 2 ^ (4 * c) % 16) (own c))) 9 ≡ false
unfolding any least own
digits = refl

pub own_digit : (c : ℕ) → c < 9 → 296 / 2 ^ (4 * c) % 16 ≡ own c
own_digit c h = eqb-true _ _ (not-false _ (any_false (λ d. not (eqb (296 / 2 ^ (4 * d) % 16) (own d))) 9 digits c h))

tops : any (λ c. not (eqb (18446744073709551615 - 18446744073709551615 / 2 ^ own c) (own_word c))) 9 ≡ false
unfolding any least own own_word
tops = refl

pub own_shifted : (c : ℕ) → c < 9 → (n : ℕ) → n ≡ own c → 18446744073709551615 - 18446744073709551615 / 2 ^ n ≡ own_word c
own_shifted c h n e =
    rw e (eqb-true _ _ (not-false _ (any_false (λ d. not (eqb (18446744073709551615 - 18446744073709551615 / 2 ^ own d) (own_word d))) 9 tops c h)))

-- the top bits that mark them
pub own_word_0 : (c : ℕ) → c ≡ 0 → 18374686479671623680 ≡ own_word c
unfolding own_word own
own_word_0 c e = rw e

pub own_word_1 : (c : ℕ) → c ≡ 1 → 13835058055282163712 ≡ own_word c
unfolding own_word own
own_word_1 c e = rw e

pub own_word_2 : (c : ℕ) → c ≡ 2 → 9223372036854775808 ≡ own_word c
unfolding own_word own
own_word_2 c e = rw e

pub own_word-none : (c : ℕ) → c ≢ 0 → c ≢ 1 → c ≢ 2 → 0 ≡ own_word c
unfolding own_word own
own_word-none zero a b d = absurd (a refl)
own_word-none (suc zero) a b d = absurd (b refl)
own_word-none (suc (suc zero)) a b d = absurd (d refl)
own_word-none (suc (suc (suc c))) a b d = refl

pub ruleset own-words = (own_word_0, own_word_1, own_word_2, own_word-none, rules)
