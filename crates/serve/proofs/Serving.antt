-- One request word: what the code does with it is what the definitions say; the words of an alloc and of a free.
use mathlib.Core.Path.{◌≡◌, refl, ap, ◌∙◌}
use mathlib.Core.Logic.{◌≢◌}
use mathlib.Core.List.{List}
use Prim.Native.Nat.{ℕ, ◌+◌, ◌/◌, ◌%◌, ◌<◌}
use native.Mathlib.Omega.{arith}
use borrow.Author.Tests.{eq-eqb, ne_eqb}
use Rattle.base.proofs.AllBelow.{pick_yes, pick_no}
use Rattle.answers.specs.Outcome.{Outcome, refused}
use Rattle.answers.specs.declared.Refusal.TheVariants.{Unreadable}
use Rattle.answer_words.specs.Word.{word_of}
use Rattle.alloc_sound.specs.Mirror.{alloc_outcome, alloc_slice}
use Rattle.free_sound.specs.Mirror.{free_outcome, free_slice}
use Rattle.serve.specs.Mirror.{asked_outcome, asked_slice, served_word, served_slice, served_words, served_all}
use Rattle.serve.proofs.Order.{InOrder}

module _ (w P : ℕ) where
  pub in_order : InOrder (served_word w P) (served_slice w P) (served_words w P) (served_all w P)
  unfolding served_words served_all
  in_order = record { no-reply = λ s. refl; one_reply = λ s x xs. refl; none_left = λ s. refl; one_left = λ s x xs. refl }

  module _ (s : List ℕ) (x : ℕ) where
    abbrev low : ℕ
    low = x % 4294967296

    abbrev Served : Outcome → List ℕ → Type 0
    Served o u = (served_word w P s x ≡ word_of o) × (served_slice w P s x ≡ u)

    pub alloc-read : x / 4294967296 ≡ 0 → Served (alloc_outcome w s P low) (alloc_slice w s P low)
    unfolding asked_outcome asked_slice served_word served_slice
    alloc-read e = (ap word_of (pick_yes _ _ _ (eq-eqb _ _ e)), pick_yes _ _ _ (eq-eqb _ _ e))

    module _ (n : x / 4294967296 ≢ 0) where
      pub free-read : x / 4294967296 ≡ 2147483648 → Served (free_outcome w s P low) (free_slice w s P low)
      unfolding asked_outcome asked_slice served_word served_slice
      free-read e =
          let f = ne_eqb _ _ n in
          let g = eq-eqb _ _ e in
          (ap word_of (pick_no _ _ _ f ∙ pick_yes _ _ _ g), pick_no _ _ _ f ∙ pick_yes _ _ _ g)

      pub stray_read : x / 4294967296 ≢ 2147483648 → Served (refused Unreadable) s
      unfolding asked_outcome asked_slice served_word served_slice
      stray_read m =
          let f = ne_eqb _ _ n in
          let g = ne_eqb _ _ m in
          (ap word_of (pick_no _ _ _ f ∙ pick_no _ _ _ g), pick_no _ _ _ f ∙ pick_no _ _ _ g)

  module _ (s : List ℕ) (v : ℕ) (h : v < 4294967296) where
    pub alloc-word : Served s v (alloc_outcome w s P v) (alloc_slice w s P v)
    alloc-word = let e : v % 4294967296 ≡ v = omega arith in rw e at (alloc-read s v (omega arith))

    pub free_word : Served s (9223372036854775808 + v) (free_outcome w s P v) (free_slice w s P v)
    free_word =
        let x : ℕ = 9223372036854775808 + v in
        let e : x % 4294967296 ≡ v = omega arith in
        rw e at (free-read s x (λ z. omega arith) (omega arith))
