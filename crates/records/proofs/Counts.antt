-- Where what is done to a class record leaves its asks and failures, the word of counts alone is written.
use mathlib.Core.Path.{◌≡◌, sym, ap, ◌∙◌}
use mathlib.Core.List.{List}
use Prim.Native.Nat.{ℕ, ◌<◌}
use native.Mathlib.Omega.{arith}
use Rattle.words.specs.Word.{Bytes, word, set_word}
use Rattle.words.proofs.Laws.{word_small, word-set_other, set_word-back, set_word-keeps}
use Rattle.records.specs.Layout.{counts_place, tally_place}
use Rattle.records.specs.declared.ClassRecord.{ClassRecord}
use Rattle.records.specs.Class.{pack_counts, pack_tally, unpack_class, class_at, with_class}

module _ (g : ClassRecord → ClassRecord) (counts : (a b : ℕ) → pack_counts (g (unpack_class a 0)) ≡ pack_counts (g (unpack_class a b)))
    (tally : (a b : ℕ) → b < 18446744073709551616 → b ≡ pack_tally (g (unpack_class a b)))
    (small : (a : ℕ) → a < 18446744073709551616 → pack_counts (g (unpack_class a 0)) < 18446744073709551616) where
  pub counts-put : (w : ℕ) (s : List ℕ) → Bytes s → (c k : ℕ) → k ≡ counts_place w c → (s' : List ℕ)
      → s' ≡ set_word s k (pack_counts (g (unpack_class (word s k) 0))) → s' ≡ with_class w s c (g (class_at w s c))
  unfolding with_class class_at
  counts-put w s B c k place s' e =
      let l : ℕ = tally_place w c in
      let o : word s' l ≡ word s l = ap (λ (x : List ℕ). word x l) e ∙ word-set_other s k l _ (λ z. omega arith) in
      let K : Bytes s' = rw e (set_word-keeps s k _ B (small (word s k) (word_small s k B))) in
      let t : word s' l ≡ pack_tally (g (unpack_class (word s k) (word s l))) = o ∙ tally (word s k) (word s l) (word_small s l B) in
      sym (set_word-back s' l K) ∙ ap (set_word s' l) t ∙ rw (e, counts (word s k) (word s l), place)
