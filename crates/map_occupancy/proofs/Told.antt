-- What the tests say of the marks m of a page of class c, where the map shows them.
use mathlib.Core.Path.{◌≡◌, refl, sym, ap, ◌∙◌}
use mathlib.Core.Logic.{◌⊎◌, inl, inr, ⊎_elim, ◌≢◌}
use mathlib.Core.Bool.{Bool, true, false, not}
use mathlib.Core.List.{List}
use Prim.Native.Nat.{ℕ, ◌+◌, ◌*◌, ◌/◌, ◌%◌, ◌≤◌, ◌<◌}
use native.Mathlib.Omega.{arith}
use lib.Dec.{eqb}
use lib.ListN.{length}
use borrow.Author.Tests.{eq-eqb, eqb-true, lt-ltb, le-ltb, not-true, not-false}
use Rattle.base.specs.Tests.{pick}
use Rattle.base.specs.Functions.{upd}
use Rattle.base.proofs.AllBelow.{all-at, at_all}
use Rattle.base.proofs.Cases.{clash, decided, eq?, lt?, same_test}
use Rattle.base.proofs.Functions.{upd_same, upd_other}
use Rattle.base.proofs.Search.{any_some, any_false}
use Rattle.words.specs.Word.{Bytes, word}
use Rattle.maps.specs.Bitmap.{mark, bits_of}
use Rattle.maps.proofs.Bits.{bits_ext, bits_injective}
use Rattle.maps.proofs.Words.{word-marks}
use Rattle.model.specs.Classes.{chunks, own, has_clear, has_taken}
use Rattle.model.proofs.Classes.{none-taken, some-taken, large-chunks}
use Rattle.map_count.specs.Mirror.{map_bits}
use Rattle.map_occupancy.specs.Mirror.{marks_are, full_marks, own_marks, is_full, last_free, last_taken}
use Rattle.map_occupancy.proofs.Words.{whole_words, bit-own, free_bits}

-- one of the tests that all must pass, made first
first_of : (t u : Bool) → (u ≡ true → t ≡ true) → pick t u false ≡ u
unfolding pick
first_of t true h = rw (h refl)
first_of true false h = refl
first_of false false h = refl

module _ (s : List ℕ) (B : Bytes s) (k c : ℕ) (inside : k + map_bits c / 64 ≤ length s / 8) (m : ℕ → Bool)
    (shown : (i : ℕ) → i < map_bits c → mark s (8 * k) i ≡ m i) where
  word-shown : (j : ℕ) → j < map_bits c / 64 → word s (k + j) ≡ bits_of (λ b. m (64 * j + b)) 64
  word-shown j l =
      word-marks s B (k + j) (omega arith)
      ∙ bits_ext _ _ 64 (λ b h.
      let e : 8 * (k + j) + b / 8 ≡ 8 * k + (64 * j + b) / 8 = omega arith in
      moved b e ∙ shown (64 * j + b) (omega arith))
    where
      moved : (b : ℕ) → 8 * (k + j) + b / 8 ≡ 8 * k + (64 * j + b) / 8 → mark s (8 * (k + j)) b ≡ mark s (8 * k) (64 * j + b)
      moved b e = unfold mark in (let f : b % 8 ≡ (64 * j + b) % 8 = omega arith in rw (e, f))

  module _ (e : ℕ → Bool) where
    are : marks_are s k (map_bits c / 64) e ≡ true → (b : ℕ) → b < map_bits c → m b ≡ e b
    unfolding marks_are
    are h b l =
        let j : ℕ = b / 64 in
        let d : j < map_bits c / 64 = omega (arith, whole_words c) in
        let x : word s (k + j) ≡ bits_of (λ i. e (64 * j + i)) 64 = eqb-true _ _ (all-at _ (map_bits c / 64) h j d) in
        let y : 64 * j + b % 64 ≡ b = omega arith in
        let z : m (64 * j + b % 64) ≡ e (64 * j + b % 64) = bits_injective (λ i. m (64 * j + i)) (λ i. e (64 * j + i)) 64 (sym (word-shown j d) ∙ x) (b % 64) (omega arith) in
        rw y at z

    those : ((b : ℕ) → b < map_bits c → m b ≡ e b) → marks_are s k (map_bits c / 64) e ≡ true
    unfolding marks_are
    those h = at_all _ (map_bits c / 64) (λ j l. eq-eqb _ _ (word-shown j l ∙ bits_ext _ _ 64 (λ b a. h (64 * j + b) (omega arith))))

  -- a page of class c: no mark is set past its chunks
  module _ (past : (b : ℕ) → chunks c ≤ b → m b ≡ false) where
    chunk-bit : (b : ℕ) → b < chunks c → b < map_bits c
    unfolding map_bits pick
    chunk-bit b l = ⊎_elim (λ (h : c < 3). rw (lt-ltb c 3 h) l) (λ (h : 3 ≤ c). rw (le-ltb c 3 h) (omega (arith, large-chunks c h))) (lt? c 3)

    -- marks f that are all set are those of a full page, as far as the map goes
    as_full : (f : ℕ → Bool) → has_clear c f ≡ false → (b : ℕ) → (b < chunks c) ⊎ (chunks c ≤ b) → m b ≡ f b → m b ≡ full_marks c b
    unfolding full_marks has_clear
    as_full f h b (inl l) e = e ∙ not-false (f b) (any_false (λ i. not (f i)) (chunks c) h b l) ∙ sym (lt-ltb b (chunks c) l)
    as_full f h b (inr l) e = past b l ∙ sym (le-ltb b (chunks c) l)

    none_clear : (f : ℕ → Bool) → ((b : ℕ) → b < chunks c → f b ≡ true) → has_clear c f ≡ false
    unfolding has_clear
    none_clear f h = decided _ (λ e. let (i, l, t) = any_some (λ j. not (f j)) (chunks c) e in clash (h i l) (not-true (f i) t))

    pub full_is : is_full s k c ≡ not (has_clear c m)
    unfolding is_full
    full_is =
        same_test _ _
        (λ h. ap not (none_clear m (λ b l. are (full_marks c) h b (chunk-bit b l) ∙ full_in b l)))
        (λ h. those (full_marks c) (λ b l. as_full m (not-true _ h) b (lt? b (chunks c)) refl))
      where
        full_in : (b : ℕ) → b < chunks c → full_marks c b ≡ true
        full_in b l = unfold full_marks in lt-ltb b (chunks c) l

    module _ (i : ℕ) (inside-page : i < chunks c) where
      -- the word that has its bit
      own_at : i / 64 < map_bits c / 64
      own_at = omega (arith, whole_words c, chunk-bit i inside-page)

      at_word : (e : ℕ → Bool) → marks_are s k (map_bits c / 64) e ≡ true → eqb (word s (k + i / 64)) (bits_of (λ b. e (64 * (i / 64) + b)) 64) ≡ true
      unfolding marks_are
      at_word e h = all-at _ (map_bits c / 64) h (i / 64) own_at

      pub last_free-is : m i ≡ false → last_free s k c i ≡ not (has_clear c (upd m i true))
      unfolding last_free
      last_free-is clear =
          rw (bit-own c i inside-page)
          (first_of _ _ (λ h. ap (eqb (word s (k + i / 64))) (sym (free_bits s k c i (i / 64) own_at refl)) ∙ at_word (upd (full_marks c) i false) h)
          ∙ same_test _ _
          (λ h. ap not (none_clear (upd m i true) (λ b l. set b l (are (upd (full_marks c) i false) h b (chunk-bit b l)) (eq? b i))))
          (λ h. those (upd (full_marks c) i false) (λ b l. same b (not-true _ h) (eq? b i))))
        where
          set : (b : ℕ) → b < chunks c → m b ≡ upd (full_marks c) i false b → (b ≡ i) ⊎ (b ≢ i) → upd m i true b ≡ true
          set b l e (inl z) = rw z (upd_same m i true)
          set b l e (inr z) = upd_other m i true b z ∙ e ∙ upd_other (full_marks c) i false b z ∙ (unfold full_marks in lt-ltb b (chunks c) l)

          same : (b : ℕ) → has_clear c (upd m i true) ≡ false → (b ≡ i) ⊎ (b ≢ i) → m b ≡ upd (full_marks c) i false b
          same b h (inl z) = rw z (clear ∙ sym (upd_same (full_marks c) i false))
          same b h (inr z) =
              as_full (upd m i true) h b (lt? b (chunks c)) (sym (upd_other m i true b z)) ∙ sym (upd_other (full_marks c) i false b z)

      pub last_taken-is : own c ≤ i → m i ≡ true → ((b : ℕ) → b < own c → m b ≡ true) → last_taken s k c i ≡ not (has_taken c (upd m i false))
      unfolding last_taken
      last_taken-is o set owns =
          rw (bit-own c i inside-page)
          (first_of _ _ (at_word (upd (own_marks c) i true))
          ∙ same_test _ _
          (λ h. ap not (decided _ (λ t.
          let (b, x, y, z) = some-taken c (upd m i false) t in clash z (clear b x (are (upd (own_marks c) i true) h b (chunk-bit b y)) (eq? b i)))))
          (λ h. those (upd (own_marks c) i true) (λ b a. same b (not-true _ h) (eq? b i) (lt? b (own c)) (lt? b (chunks c)))))
        where
          clear : (b : ℕ) → own c ≤ b → m b ≡ upd (own_marks c) i true b → (b ≡ i) ⊎ (b ≢ i) → upd m i false b ≡ false
          clear b x e (inl z) = rw z (upd_same m i false)
          clear b x e (inr z) = upd_other m i false b z ∙ e ∙ upd_other (own_marks c) i true b z ∙ (unfold own_marks in le-ltb b (own c) x)

          same : (b : ℕ) → has_taken c (upd m i false) ≡ false → (b ≡ i) ⊎ (b ≢ i) → (b < own c) ⊎ (own c ≤ b) → (b < chunks c) ⊎ (chunks c ≤ b) → m b ≡ upd (own_marks c) i true b
          same b h (inl z) x y = rw z (set ∙ sym (upd_same (own_marks c) i true))
          same b h (inr z) (inl x) y = owns b x ∙ sym (upd_other (own_marks c) i true b z ∙ (unfold own_marks in lt-ltb b (own c) x))
          same b h (inr z) (inr x) (inl y) =
              sym (upd_other m i false b z) ∙ none-taken c (upd m i false) h b x y ∙ sym (upd_other (own_marks c) i true b z ∙ (unfold own_marks in le-ltb b (own c) x))
          same b h (inr z) (inr x) (inr y) = past b y ∙ sym (upd_other (own_marks c) i true b z ∙ (unfold own_marks in le-ltb b (own c) x))
