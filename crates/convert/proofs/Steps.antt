-- The steps of the code: loops over words and classes, and what the tests let pass.
use mathlib.Core.Path.{◌≡◌, refl, sym, ap, ◌∙◌}
use mathlib.Core.Logic.{◌≢◌}
use mathlib.Core.Bool.{Bool, true, false}
use mathlib.Core.List.{List}
use Prim.Native.Nat.{ℕ, ◌+◌, ◌*◌, ◌%◌, ◌≤◌}
use native.Mathlib.Numerals.{add-one}
use native.Mathlib.Omega.{arith}
use lib.Dec.{eqb}
use lib.ListN.{length}
use borrow.Author.Rules.{rules}
use borrow.Author.Tests.{eqb-true, eqb-false}
use Rattle.words.specs.Word.{Bytes, word, set_word}
use Rattle.records.specs.Layout.{peak_place, pages_from, page_count}
use Rattle.records.specs.Class.{class_at, pack_peak, with_peak}
use Rattle.answers.specs.Outcome.{granted, refused}
use Rattle.answers.specs.declared.Refusal.TheVariants.{NotSound, WrongLength}
use Rattle.copying.specs.Lay.{lay}
use Rattle.image.specs.Image.{write_at}
use Rattle.rules.specs.Bytes.{pages_in, broken_rule}
use Rattle.drawing.proofs.Laws.{claims as laws-of}
use Rattle.sound_pools.specs.Sound.{Validated}
use Rattle.convert.specs.Convert.{convert_outcome, converted}
use Rattle.convert.specs.Mirror.{words_copied, peaks_set, pages_laid, written}
use Rattle.convert.proofs.Written.{written_is}
use Rattle.convert.proofs.Claims.{unsound, wrong_length, granted-is, converted-is, source_room, target_room}

-- ---- words

module _ (to step from stride : ℕ) (s t : List ℕ) where
  pub copied_none : t ≡ words_copied to step from stride 0 s t
  unfolding words_copied write_at
  copied_none = refl

  pub copied_one : (u v : List ℕ) (i k j x : ℕ) → u ≡ words_copied to step from stride i s t → k ≡ to + step * i → j ≡ from + stride * i → x ≡ word s j →
      v ≡ set_word u k x → v ≡ words_copied to step from stride (i + 1) s t
  unfolding words_copied write_at
  copied_one u v i k j x e f g z y = rw (add-one i) (y ∙ rw (e, f, z, g))

  pub copied_all : (u : List ℕ) (i n : ℕ) → u ≡ words_copied to step from stride i s t → i ≤ n → n ≤ i → u ≡ words_copied to step from stride n s t
  copied_all u i n e a b = let d : i ≡ n = omega arith in rw (← d) e

pub ruleset copies = (copied_none, copied_one, copied_all, rules)

-- ---- peaks

-- of the first n classes
unfoldable pub peaks_below : (n : ℕ) (s t : List ℕ) → List ℕ
peaks_below n s t = write_at (peak_place 3) n (λ c. pack_peak (class_at 2 s c).used) t

module _ (s t : List ℕ) where
  pub set-none : t ≡ peaks_below 0 s t
  unfolding peaks_below write_at
  set-none = refl

  pub set_one : (u v : List ℕ) (c n : ℕ) → u ≡ peaks_below c s t → n ≡ (class_at 2 s c).used → v ≡ with_peak 3 u c n → v ≡ peaks_below (c + 1) s t
  unfolding peaks_below write_at with_peak
  set_one u v c n e f g = rw (add-one c) (g ∙ rw (e, f))

  pub set_all : (u : List ℕ) (c : ℕ) → u ≡ peaks_below c s t → c ≤ 9 → 9 ≤ c → u ≡ peaks_set s t
  unfolding peaks_below peaks_set
  set_all u c e a b = let d : c ≡ 9 = omega arith in rw d at e

pub ruleset peaks = (set-none, set_one, set_all, rules)

-- ---- pages

pub laid_at : (P : ℕ) (s t v : List ℕ) → v ≡ lay (224 + 16 * P) (152 + 16 * P) s (4096 * P) t → v ≡ pages_laid P s t
unfolding pages_laid
laid_at P s t v e =
    let a : 224 + 16 * P ≡ pages_from 3 P = omega arith in
    let b : 152 + 16 * P ≡ pages_from 2 P = omega arith in
    rw (a, b) at e

-- ---- what the tests let pass

module _ (s t : List ℕ) (B : Bytes s) (C : Bytes t) where
  pub not_sound_lem : broken_rule 2 s ≢ 0 → (refused NotSound ≡ convert_outcome s t) × (t ≡ converted s t)
  not_sound_lem n = let (a, b) = unsound s t n in (sym a, sym b)

  module _ {pages : ℕ} (G : Validated 2 s pages) where
    sound : broken_rule 2 s ≡ 0
    sound = G.pool.sound

    module _ (k : ℕ) (q : k ≡ page_count 3 (length t)) where
      pub other_pages : k ≢ pages → (refused WrongLength ≡ convert_outcome s t) × (t ≡ converted s t)
      other_pages d = let (a, b) = wrong_length s t sound (λ z. d (q ∙ z ∙ sym G.counted)) in (sym a, sym b)

      module _ (z : k ≡ pages) where
        same : pages_in 3 t ≡ pages_in 2 s
        same = sym q ∙ z ∙ G.counted

        pub has_room : (pages_from 3 pages + 4096 * pages ≤ length t) × (pages_from 2 pages + 4096 * pages ≤ length s)
        has_room = rw G.counted (target_room s t B C sound same, source_room s t B C sound same)

        pub all-written : (v : List ℕ) → v ≡ written pages s t → (granted pages ≡ convert_outcome s t) × (v ≡ converted s t)
        all-written v w = (
          rw G.counted (sym (granted-is s t B C sound same)),
          w ∙ ap (λ (n : ℕ). written n s t) G.counted ∙ written_is s B sound t ∙ sym (converted-is s t B C sound same),
        )
