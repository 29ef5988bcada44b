-- The first 12 entries of a slice: read, stored, and put before those that stand behind them.
use Rattle.std.proofs.Common.{◌≡◌, ℕ, ◌+◌, ◌<◌, ◌≤◌, ◌≢◌, List, ◌++◌, length, get_or, set, take, drop, sym, ap, ◌∙◌, arith, get_or-take}
use Rattle.std.proofs.Math.Seq.{length-take-le, set_out, set-append_left, take_at, drop_at}
use Rattle.std.proofs.Math.ListN.{take-append-drop}
use Rattle.std.proofs.lemmas.Bool.{ne_eqb}
use Rattle.base.specs.Tests.{pick}
use Rattle.plain.specs.Arrays.{pushed}
use Rattle.plain.specs.Table.{vacant, is_vacant, wrap, cut, ends_before, begins_at, apart, whole, carved_at, len_of, cleared, released}
use Rattle.plain.specs.Mirror.{carved, returned}
use Rattle.plain.specs.declared.Extent.{Extent}
use Rattle.plain.proofs.Loops.{length-remade}

-- ---- the front of a slice

pub front_back : (ys : List Extent) → ys ≡ take 12 ys ++ drop 12 ys
front_back ys = sym (take-append-drop 12 ys)

-- ---- pages taken

module _ (ys : List Extent) (i k : ℕ) where
  pub carved-none : k ≡ 0 → ys ≡ carved i k (take 12 ys) ++ drop 12 ys
  unfolding carved pick
  carved-none h = rw h (front_back ys)

  module _ (enough : 12 ≤ length ys) (some : k ≢ 0) where
    pub carved-past : 12 ≤ i → ys ≡ carved i k (take 12 ys) ++ drop 12 ys
    unfolding carved carved_at pick
    carved-past l =
        let n : length (take 12 ys) ≡ 12 = length-take-le 12 ys enough in
        let out : length (take 12 ys) ≤ i = omega arith in
        rw (ne_eqb k 0 some, set_out (take 12 ys) i (cut k (get_or (take 12 ys) i vacant)) out) (front_back ys)

    pub carved_here : i < 12 → set ys i (cut k (get_or ys i vacant)) ≡ carved i k (take 12 ys) ++ drop 12 ys
    unfolding carved carved_at pick
    carved_here h =
        let n : length (take 12 ys) ≡ 12 = length-take-le 12 ys enough in
        rw (ne_eqb k 0 some, get_or-take 12 ys i vacant h)
        (ap (λ (zs : List Extent). set zs i (cut k (get_or ys i vacant))) (front_back ys) ∙ set-append_left (take 12 ys) (drop 12 ys) i (cut k (get_or ys i vacant)) (omega arith))

-- ---- pages released

length-cleared : (p q : ℕ) (t : List Extent) → length (cleared p q t) ≡ length t
unfolding cleared
length-cleared p q t = length-remade (λ j e. apart p q e) 0 t

module _ (ys : List Extent) (p k : ℕ) where
  pub returned-none : k ≡ 0 → ys ≡ returned p k (take 12 ys) ++ drop 12 ys
  unfolding returned pick
  returned-none h = rw h (front_back ys)

  -- the table in two steps: cleared, and with a new head
  pub returned-whole : (us ws : List Extent) → 12 ≤ length ys → k ≢ 0 → us ≡ cleared p (wrap (p + k)) (take 12 ys) ++ drop 12 ys
      → ws ≡ pushed is_vacant (whole p k (len_of (ends_before p) (take 12 ys)) (len_of (begins_at (wrap (p + k))) (take 12 ys))) (take 12 us) ++ drop 12 us
      → ws ≡ returned p k (take 12 ys) ++ drop 12 ys
  unfolding returned released pick
  returned-whole us ws enough some fu fw =
      let t : List Extent = cleared p (wrap (p + k)) (take 12 ys) in
      let n : length t ≡ 12 = length-cleared p (wrap (p + k)) (take 12 ys) ∙ length-take-le 12 ys enough in
      let f : take 12 us ≡ t = ap (take 12) fu ∙ take_at t (drop 12 ys) 12 n in
      let b : drop 12 us ≡ drop 12 ys = ap (drop 12) fu ∙ drop_at t (drop 12 ys) 12 n in
      rw (ne_eqb k 0 some) (fw ∙ rw (f, b))
