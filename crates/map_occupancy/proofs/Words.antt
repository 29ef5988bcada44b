-- The words that the code expects are those of the marks that the definitions name.
use mathlib.Core.Path.{◌≡◌, refl, sym, ap, ◌∙◌}
use mathlib.Core.Logic.{◌⊎◌, inl, inr, ⊎_elim, ◌≢◌}
use mathlib.Core.Bool.{Bool, true, false, not}
use mathlib.Core.List.{List}
use Prim.Native.Nat.{ℕ, ◌+◌, ◌-◌, ◌*◌, ◌/◌, ◌%◌, ◌^◌, ◌≤◌, ◌<◌}
use native.Mathlib.Omega.{arith}
use lib.Bits.{bit_and, bit_or}
use lib.Dec.{eqb, ltb}
use borrow.Author.Tests.{eq-eqb, ne_eqb, eqb-true, lt-ltb, le-ltb, not-false}
use Rattle.base.specs.Tests.{pick, all_below}
use Rattle.base.specs.Functions.{upd}
use Rattle.base.specs.Search.{least, any}
use Rattle.base.proofs.Search.{any_false}
use Rattle.base.proofs.AllBelow.{pick_yes, pick_no, all_same}
use Rattle.base.proofs.Cases.{eq?, lt?}
use Rattle.base.proofs.Functions.{upd_same, upd_other, upd-at}
use Rattle.words.specs.Word.{word}
use Rattle.maps.specs.Bitmap.{bits_of}
use Rattle.maps.proofs.Bits.{bits_ext}
use Rattle.model.specs.Classes.{chunks, own}
use Rattle.model.proofs.Classes.{large-chunks}
use Rattle.map_count.specs.Mirror.{map_bits}
use Rattle.classes.specs.Mirror.{own_word}
use Rattle.classes.proofs.Numbers.{chunks_past, chunks_512, own-past, own-small}
use Rattle.map_occupancy.specs.Mirror.{marks_are, full_marks, own_marks, is_full, last_free, last_taken, bit_for, expected, words_are, words_from}

-- ---- the words of the classes, by tables; 9 stands for all past 8

table : (f g : ℕ → ℕ) (n : ℕ) → any (λ x. not (eqb (f x) (g x))) n ≡ false → (x : ℕ) → x < n → f x ≡ g x
table f g n e x h = eqb-true (f x) (g x) (not-false _ (any_false (λ x. not (eqb (f x) (g x))) n e x h))

-- over the classes below n and the marks of a word
pairs : (f g : ℕ → ℕ → ℕ) (n : ℕ) → any (λ x. not (eqb (f (x / 64) (x % 64)) (g (x / 64) (x % 64)))) (64 * n) ≡ false → (c r : ℕ) → c < n → r < 64 → f c r ≡ g c r
pairs f g n e c r h l =
    let a : (64 * c + r) / 64 ≡ c = omega arith in
    let b : (64 * c + r) % 64 ≡ r = omega arith in
    let q : f ((64 * c + r) / 64) ((64 * c + r) % 64) ≡ g ((64 * c + r) / 64) ((64 * c + r) % 64) =
    table (λ x. f (x / 64) (x % 64)) (λ x. g (x / 64) (x % 64)) (64 * n) e (64 * c + r) (omega arith) in
    rw (a, b) at q

past_9 : (c : ℕ) → 9 ≤ c → chunks c ≡ chunks 9
past_9 c h = sym (chunks_past c h) ∙ chunks_past 9 (omega arith)

past_3 : (c : ℕ) → 3 ≤ c → own c ≡ own 3
past_3 c h = sym (own-past c h) ∙ own-past 3 (omega arith)

full-few : (c : ℕ) → 3 ≤ c → c < 10 → 18446744073709551615 - 9223372036854775807 / 2 ^ (chunks c - 1) ≡ bits_of (full_marks c) 64
unfolding any least chunks full_marks bits_of
full-few c h l =
    let e : c - 3 + 3 ≡ c = omega arith in
    rw e
    at (table (λ x. 18446744073709551615 - 9223372036854775807 / 2 ^ (chunks (x + 3) - 1)) (λ x. bits_of (full_marks (x + 3)) 64) 7 refl (c - 3) (omega arith))

free-few : (c r : ℕ) → c < 10 → r < 64 → bit_and (bits_of (full_marks c) 64) (18446744073709551615 - 9223372036854775808 / 2 ^ r) ≡ bits_of (upd (full_marks c) r false) 64
unfolding any least chunks full_marks bits_of upd
free-few c r h l =
    pairs (λ c r. bit_and (bits_of (full_marks c) 64) (18446744073709551615 - 9223372036854775808 / 2 ^ r)) (λ c r. bits_of (upd (full_marks c) r false) 64) 10 refl c r h l

taken-few : (c r : ℕ) → c < 4 → r < 64 → bit_or (own_word c) (9223372036854775808 / 2 ^ r) ≡ bits_of (upd (own_marks c) r true) 64
unfolding any least own own_marks own_word bits_of upd
taken-few c r h l = pairs (λ c r. bit_or (own_word c) (9223372036854775808 / 2 ^ r)) (λ c r. bits_of (upd (own_marks c) r true) 64) 4 refl c r h l

-- all of a word but one mark
but_one : (r : ℕ) → r < 64 → 18446744073709551615 - 9223372036854775808 / 2 ^ r ≡ bit_and 18446744073709551615 (18446744073709551615 - 9223372036854775808 / 2 ^ r)
unfolding any least
but_one r l =
    table (λ r. 18446744073709551615 - 9223372036854775808 / 2 ^ r) (λ r. bit_and 18446744073709551615 (18446744073709551615 - 9223372036854775808 / 2 ^ r)) 64 refl r l

module _ (c : ℕ) where
  -- the shift that the code makes
  pub full-word : (k : ℕ) → 3 ≤ c → k ≡ chunks c - 1 → 18446744073709551615 - 9223372036854775807 / 2 ^ k ≡ bits_of (full_marks c) 64
  unfolding full_marks bits_of
  full-word k h e = rw e (⊎_elim (λ (l : c < 10). full-few c h l) (λ (l : 10 ≤ c). rw (past_9 c (omega arith)) (full-few 9 (omega arith) (omega arith))) (lt? c 10))

  pub full_paged : c < 3 → 18446744073709551615 ≡ bits_of (full_marks c) 64
  unfolding any least chunks full_marks bits_of
  full_paged l = table (λ x. 18446744073709551615) (λ x. bits_of (full_marks x) 64) 3 refl c l

  pub free_word : (r : ℕ) → r < 64 → bit_and (bits_of (full_marks c) 64) (18446744073709551615 - 9223372036854775808 / 2 ^ r) ≡ bits_of (upd (full_marks c) r false) 64
  unfolding full_marks bits_of chunks upd
  free_word r h = ⊎_elim (λ (l : c < 10). free-few c r l h) (λ (l : 10 ≤ c). rw (past_9 c (omega arith)) (free-few 9 r (omega arith) h)) (lt? c 10)

  pub taken_word : (r : ℕ) → r < 64 → bit_or (own_word c) (9223372036854775808 / 2 ^ r) ≡ bits_of (upd (own_marks c) r true) 64
  unfolding own_marks own_word own upd bits_of
  taken_word r h = ⊎_elim (λ (l : c < 4). taken-few c r l h) (λ (l : 4 ≤ c). rw (past_3 c (omega arith)) (taken-few 3 r (omega arith) h)) (lt? c 4)

  pub own_word_lem : bits_of (own_marks c) 64 ≡ own_word c
  unfolding own_marks own_word own bits_of
  own_word_lem = ⊎_elim (λ (l : c < 4). few c l) (λ (l : 4 ≤ c). rw (past_3 c (omega arith)) (few 3 (omega arith))) (lt? c 4)
    where
      few : (d : ℕ) → d < 4 → bits_of (own_marks d) 64 ≡ own_word d
      few d l = unfold any least own bits_of in table (λ x. bits_of (own_marks x) 64) own_word 4 refl d l

  -- ---- the words after the first

  full_same : (j b : ℕ) → j < map_bits c / 64 → b < 64 → full_marks c (64 * j + b) ≡ full_marks c b
  unfolding full_marks map_bits pick
  full_same j b h l = go (lt? c 3)
    where
      go : (c < 3) ⊎ (3 ≤ c) → ltb (64 * j + b) (chunks c) ≡ ltb b (chunks c)
      go (inl a) =
          let k : j < chunks c / 64 = rw (lt-ltb c 3 a) at h in
          rw (lt-ltb (64 * j + b) (chunks c) (omega arith), lt-ltb b (chunks c) (omega arith))
      go (inr a) =
          let k : j < 64 / 64 = rw (le-ltb c 3 a) at h in
          let z : 64 * j + b ≡ b = omega arith in
          rw z

  own_first : (b : ℕ) → own_marks c (64 * 0 + b) ≡ own_marks c b
  own_first b = let z : 64 * 0 + b ≡ b = omega arith in rw z

  own-none : (j b : ℕ) → j ≢ 0 → own_marks c (64 * j + b) ≡ false
  unfolding own_marks
  own-none j b h = le-ltb (64 * j + b) (own c) (omega (arith, own-small c))

  pub bits_most : map_bits c / 64 ≤ 8
  unfolding map_bits pick
  bits_most = go (lt? c 3)
    where
      go : (c < 3) ⊎ (3 ≤ c) → pick (ltb c 3) (chunks c) 64 / 64 ≤ 8
      go (inl l) = rw (lt-ltb c 3 l) (omega (arith, chunks_512 c))
      go (inr l) = rw (le-ltb c 3 l) (omega arith)

  pub whole_words : 64 * (map_bits c / 64) ≡ map_bits c
  unfolding map_bits pick chunks
  whole_words = go (lt? c 3)
    where
      go : (c < 3) ⊎ (3 ≤ c) → 64 * (pick (ltb c 3) (chunks c) 64 / 64) ≡ pick (ltb c 3) (chunks c) 64
      go (inl l) = rw (lt-ltb c 3 l) (table (λ x. 64 * (chunks x / 64)) chunks 3 (unfold any least in refl) c l)
      go (inr l) = rw (le-ltb c 3 l)

  pub words_paged : c < 3 → 8 / 2 ^ c ≡ map_bits c / 64
  unfolding any least map_bits pick chunks
  words_paged l = table (λ x. 8 / 2 ^ x) (λ x. map_bits x / 64) 3 refl c l

  pub words_recorded : 3 ≤ c → map_bits c / 64 ≡ 1
  unfolding map_bits pick
  words_recorded l = rw (le-ltb c 3 l)

  pub bit_paged : (i : ℕ) → c < 3 → bit_for c i ≡ i
  unfolding bit_for pick
  bit_paged i l = rw (lt-ltb c 3 l)

  pub bit_recorded : (i : ℕ) → 3 ≤ c → bit_for c i ≡ i % 64
  unfolding bit_for pick
  bit_recorded i l = rw (le-ltb c 3 l)

  -- of a chunk that the page has
  pub bit-own : (i : ℕ) → i < chunks c → bit_for c i ≡ i
  bit-own i h = ⊎_elim (λ (l : c < 3). bit_paged i l) (λ (l : 3 ≤ c). bit_recorded i l ∙ omega (arith, large-chunks c l)) (lt? c 3)

-- no own marks
own_word_3 : 0 ≡ own_word 3
unfolding own_word own
own_word_3 = refl

own_marks_3 : (b : ℕ) → own_marks 3 b ≡ false
unfolding own_marks own
own_marks_3 b = le-ltb b 0 (omega arith)

no_bits : bits_of (λ b. false) 64 ≡ 0
unfolding bits_of
no_bits = refl

-- ---- one mark changed

module _ (f : ℕ → Bool) (i j : ℕ) (v : Bool) where
  same_word : j ≡ i / 64 → bits_of (λ b. upd f i v (64 * j + b)) 64 ≡ bits_of (upd (λ b. f (64 * j + b)) (i % 64) v) 64
  same_word e = bits_ext _ _ 64 (λ b l. go b l (eq? b (i % 64)))
    where
      go : (b : ℕ) → b < 64 → (b ≡ i % 64) ⊎ (b ≢ i % 64) → upd f i v (64 * j + b) ≡ upd (λ b. f (64 * j + b)) (i % 64) v b
      go b l (inl q) =
          let z : 64 * j + b ≡ i = omega arith in
          rw (z, q) (upd_same f i v ∙ sym (upd_same (λ b. f (64 * j + b)) (i % 64) v))
      go b l (inr q) = upd_other f i v (64 * j + b) (λ z. q (omega arith)) ∙ sym (upd_other (λ b. f (64 * j + b)) (i % 64) v b q)

  other_word : j ≢ i / 64 → bits_of (λ b. upd f i v (64 * j + b)) 64 ≡ bits_of (λ b. f (64 * j + b)) 64
  other_word e = bits_ext _ _ 64 (λ b l. upd_other f i v (64 * j + b) (λ z. e (omega arith)))

-- ---- the three tests

module _ (first rest at odd j : ℕ) where
  expected_odd : j ≡ at → expected first rest at odd j ≡ odd
  unfolding expected pick
  expected_odd e = rw (eq-eqb j at e)

  expected-first : j ≢ at → j ≡ 0 → expected first rest at odd j ≡ first
  unfolding expected pick
  expected-first d e = rw (ne_eqb j at d, eq-eqb j 0 e)

  expected-rest : j ≢ at → j ≢ 0 → expected first rest at odd j ≡ rest
  unfolding expected pick
  expected-rest d e = rw (ne_eqb j at d, ne_eqb j 0 e)

-- a map of one word
pub one_word : (s : List ℕ) (k m first rest at odd x : ℕ) (r : Bool) → m ≡ 1 → x ≡ expected first rest at odd 0 → r ≡ eqb (word s k) x → r ≡ words_are s k m first rest at odd
unfolding words_are all_below pick
one_word s k m first rest at odd x r e d q =
    let z : k + 0 ≡ k = omega arith in
    q ∙ rw (e, d) (rw z (whole (eqb (word s k) (expected first rest at odd 0))))
  where
    whole : (b : Bool) → b ≡ pick b true false
    whole true = refl
    whole false = refl

-- words that are expected alike
alike : (s : List ℕ) (k m first rest at odd : ℕ) (e : ℕ → Bool) → ((j : ℕ) → j < m → expected first rest at odd j ≡ bits_of (λ b. e (64 * j + b)) 64)
    → words_are s k m first rest at odd ≡ marks_are s k m e
unfolding words_are marks_are
alike s k m first rest at odd e h = all_same _ _ m (λ j l. ap (eqb (word s (k + j))) (h j l))

module _ (s : List ℕ) (k c : ℕ) where
  -- every word of a full map, and those that mark i leaves as they are
  every : (x o at j : ℕ) → j ≢ at → expected x x at o j ≡ x
  every x o at j d = ⊎_elim (λ (e : j ≡ 0). expected-first x x at o j d e) (λ (e : j ≢ 0). expected-rest x x at o j d e) (eq? j 0)

  -- word j with mark i clear, as the first word would have it
  pub free_bits : (i j : ℕ) → j < map_bits c / 64 → j ≡ i / 64 → bits_of (λ b. upd (full_marks c) i false (64 * j + b)) 64 ≡ bits_of (upd (full_marks c) (i % 64) false) 64
  free_bits i j l z = same_word (full_marks c) i j false z ∙ bits_ext _ _ 64 (λ b h. upd-at _ _ (i % 64) false b (full_same c j b l h))

  full_bits : (x j : ℕ) → x ≡ bits_of (full_marks c) 64 → j < map_bits c / 64 → x ≡ bits_of (λ b. full_marks c (64 * j + b)) 64
  full_bits x j e l = e ∙ sym (bits_ext _ _ 64 (λ b h. full_same c j b l h))

  -- whichever word is named apart
  full-all : (x m at : ℕ) → x ≡ bits_of (full_marks c) 64 → m ≡ map_bits c / 64 → words_are s k m x x at x ≡ is_full s k c
  unfolding is_full
  full-all x m at e d = rw d (alike s k (map_bits c / 64) x x at x (full_marks c) (λ j l. each j (eq? j at) ∙ full_bits x j e l))
    where
      each : (j : ℕ) → (j ≡ at) ⊎ (j ≢ at) → expected x x at x j ≡ x
      each j (inl z) = expected_odd x x at x j z
      each j (inr z) = every x x at j z

  free_odd : (i x o : ℕ) → x ≡ bits_of (full_marks c) 64 → o ≡ bit_and x (18446744073709551615 - 9223372036854775808 / 2 ^ (i % 64)) → o ≡ bits_of (upd (full_marks c) (i % 64) false) 64
  free_odd i x o e p = p ∙ ap (λ (y : ℕ). bit_and y (18446744073709551615 - 9223372036854775808 / 2 ^ (i % 64))) e ∙ free_word c (i % 64) (omega arith)

  free-told : (i x o m : ℕ) → x ≡ bits_of (full_marks c) 64 → o ≡ bit_and x (18446744073709551615 - 9223372036854775808 / 2 ^ (i % 64)) → m ≡ map_bits c / 64
      → words_are s k m x x (i / 64) o ≡ marks_are s k (map_bits c / 64) (upd (full_marks c) i false)
  free-told i x o m e p d = rw d (alike s k (map_bits c / 64) x x (i / 64) o (upd (full_marks c) i false) (λ j l. go j l (eq? j (i / 64))))
    where
      go : (j : ℕ) → j < map_bits c / 64 → (j ≡ i / 64) ⊎ (j ≢ i / 64) → expected x x (i / 64) o j ≡ bits_of (λ b. upd (full_marks c) i false (64 * j + b)) 64
      go j l (inl z) =
          expected_odd x x (i / 64) o j z ∙ free_odd i x o e p ∙ sym (free_bits i j l z)
      go j l (inr z) = every x o (i / 64) j z ∙ full_bits x j e l ∙ sym (other_word (full_marks c) i j false z)

  -- word i / 64 with mark i set
  taken_odd : (i x o j : ℕ) → x ≡ own_word c → o ≡ bit_or (pick (eqb (i / 64) 0) x 0) (9223372036854775808 / 2 ^ (i % 64)) → j ≡ i / 64
      → o ≡ bits_of (λ b. upd (own_marks c) i true (64 * j + b)) 64
  taken_odd i x o j e p z = go (eq? j 0)
    where
      odd : (y : ℕ) → pick (eqb (i / 64) 0) x 0 ≡ y → o ≡ bit_or y (9223372036854775808 / 2 ^ (i % 64))
      odd y q = p ∙ ap (λ (a : ℕ). bit_or a (9223372036854775808 / 2 ^ (i % 64))) q

      go : (j ≡ 0) ⊎ (j ≢ 0) → o ≡ bits_of (λ b. upd (own_marks c) i true (64 * j + b)) 64
      go (inl y) =
          odd (own_word c) (pick_yes _ _ _ (eq-eqb (i / 64) 0 (sym z ∙ y)) ∙ e) ∙ taken_word c (i % 64) (omega arith)
          ∙ sym (same_word (own_marks c) i j true z ∙ bits_ext _ _ 64 (λ b h. upd-at _ _ (i % 64) true b (rw y (own_first c b))))
      go (inr y) =
          odd (own_word 3) (pick_no _ _ _ (ne_eqb (i / 64) 0 (λ q. y (z ∙ q))) ∙ own_word_3) ∙ taken_word 3 (i % 64) (omega arith)
          ∙ sym (same_word (own_marks c) i j true z ∙ bits_ext _ _ 64 (λ b h. upd-at _ _ (i % 64) true b (own-none c j b y ∙ sym (own_marks_3 b))))

  taken-told : (i x o m : ℕ) → x ≡ own_word c → o ≡ bit_or (pick (eqb (i / 64) 0) x 0) (9223372036854775808 / 2 ^ (i % 64)) → m ≡ map_bits c / 64
      → words_are s k m x 0 (i / 64) o ≡ marks_are s k (map_bits c / 64) (upd (own_marks c) i true)
  taken-told i x o m e p d = rw d (alike s k (map_bits c / 64) x 0 (i / 64) o (upd (own_marks c) i true) (λ j l. go j (eq? j (i / 64)) (eq? j 0)))
    where
      none : (j : ℕ) → j ≢ 0 → bits_of (λ b. own_marks c (64 * j + b)) 64 ≡ 0
      none j h = bits_ext _ (λ b. false) 64 (λ b l. own-none c j b h) ∙ no_bits

      go : (j : ℕ) → (j ≡ i / 64) ⊎ (j ≢ i / 64) → (j ≡ 0) ⊎ (j ≢ 0) → expected x 0 (i / 64) o j ≡ bits_of (λ b. upd (own_marks c) i true (64 * j + b)) 64
      go j (inl z) y = expected_odd x 0 (i / 64) o j z ∙ taken_odd i x o j e p z
      go j (inr z) (inl y) =
          expected-first x 0 (i / 64) o j z y ∙ e ∙ sym (own_word_lem c)
          ∙ sym (other_word (own_marks c) i j true z ∙ bits_ext _ _ 64 (λ b h. rw y (own_first c b)))
      go j (inr z) (inr y) = expected-rest x 0 (i / 64) o j z y ∙ sym (other_word (own_marks c) i j true z ∙ none j y)

  -- a word looked at first, and all of them
  first_then : (at o x : ℕ) (t u : Bool) → o ≡ x → t ≡ u → pick (eqb (word s (k + at)) o) t false ≡ pick (eqb (word s (k + at)) x) u false
  first_then at o x t u e d = ap (λ (y : ℕ). pick (eqb (word s (k + at)) y) t false) e ∙ ap (λ (b : Bool). pick (eqb (word s (k + at)) x) b false) d

  -- where the map has no other
  first_alone : (at o x : ℕ) (r u : Bool) → at ≡ 0 → o ≡ x → r ≡ eqb (word s k) o → r ≡ u → r ≡ pick (eqb (word s (k + at)) x) u false
  first_alone at o x r u z e q d =
      let y : k + at ≡ k = omega arith in
      twice r ∙ ap (λ (b : Bool). pick b r false) (q ∙ rw y (ap (eqb (word s k)) e)) ∙ ap (λ (b : Bool). pick (eqb (word s (k + at)) x) b false) d
    where
      twice : (b : Bool) → b ≡ pick b b false
      twice true = unfold pick in refl
      twice false = unfold pick in refl

  -- ---- maps in the page

  pub full_paged_told : (m : ℕ) (r : Bool) → c < 3 → m ≡ map_bits c / 64 → r ≡ words_are s k m 18446744073709551615 18446744073709551615 8 18446744073709551615 → r ≡ is_full s k c
  full_paged_told m r l d q = q ∙ full-all _ m 8 (full_paged c l) d

  pub free_paged_told : (i o m : ℕ) (r : Bool) → c < 3 → o ≡ 18446744073709551615 - 9223372036854775808 / 2 ^ (i % 64) → m ≡ map_bits c / 64
      → r ≡ words_from s k m 18446744073709551615 18446744073709551615 (i / 64) o → r ≡ last_free s k c i
  unfolding last_free words_from
  free_paged_told i o m r l p d q =
      let e = full_paged c l in
      let f = p ∙ but_one (i % 64) (omega arith) in
      rw (bit_paged c i l) (q ∙ first_then (i / 64) o _ _ _ (free_odd i _ o e f) (free-told i _ o m e f d))

  -- ---- wherever the map lies

  pub last_taken-told : (i x o m : ℕ) (r : Bool) → i < chunks c → x ≡ own_word c → o ≡ bit_or (pick (eqb (i / 64) 0) x 0) (9223372036854775808 / 2 ^ (i % 64)) → m ≡ map_bits c / 64
      → r ≡ words_from s k m x 0 (i / 64) o → r ≡ last_taken s k c i
  unfolding last_taken words_from
  last_taken-told i x o m r l e p d q = rw (bit-own c i l) (q ∙ first_then (i / 64) o _ _ _ (taken_odd i x o (i / 64) e p refl) (taken-told i x o m e p d))

  -- ---- maps in the record

  module _ (large : 3 ≤ c) where
    pub full_recorded_told : (x : ℕ) (r : Bool) → x ≡ bits_of (full_marks c) 64 → r ≡ eqb (word s k) x → r ≡ is_full s k c
    full_recorded_told x r e q =
        one_word s k (map_bits c / 64) x x 8 x x r (words_recorded c large) (sym (every x x 8 0 (λ z. omega arith))) q ∙ full-all x (map_bits c / 64) 8 e refl

    module _ (i : ℕ) where
      low : i % 64 % 64 ≡ i % 64
      low = omega arith

      none : 0 ≡ i % 64 / 64
      none = omega arith

      pub free_recorded_told : (x : ℕ) (r : Bool) → x ≡ bits_of (full_marks c) 64 → r ≡ eqb (word s k) (bit_and x (18446744073709551615 - 9223372036854775808 / 2 ^ (i % 64))) → r ≡ last_free s k c i
      unfolding last_free
      free_recorded_told x r e q =
          let o = bit_and x (18446744073709551615 - 9223372036854775808 / 2 ^ (i % 64)) in
          rw (bit_recorded c i large)
          (first_alone (i % 64 / 64) o _ r _ (sym none) (free_odd i x o e refl) q
          (one_word s k (map_bits c / 64) x x (i % 64 / 64) o o r (words_recorded c large) (sym (expected_odd x x (i % 64 / 64) o 0 none)) q
          ∙ free-told (i % 64) x o (map_bits c / 64) e (rw low) refl))
