-- What a program reads, makes and writes, told of the whole input.
use Rattle.std.specs.Prelude.{◌≡◌, ◌⊎◌, ℕ, ◌≤◌, ◌<◌, List, ◌++◌, length, take, Option, None, Some, IfSome, Result, Ok, Err, OnOk}
use Rattle.std.specs.Io.KnownBytes.{Consumes, IsAtEnd, Appends}
use Rattle.std.proofs.Common.{inl, inr, arith, ap, subst, sym, ◌∙◌}
use Rattle.std.proofs.lemmas.List.{append-nil, length-take-le}
use Rattle.std.proofs.lemmas.List.Edits.{sets-eq}
use Rattle.std.proofs.Math.Seq.{take-append_seam}
use Rattle.base.proofs.Cases.{lt?}
use Rattle.printing.specs.Text.{written}

-- what f makes of the bytes read it makes of the whole input, where bytes behind a full buffer change nothing
pub whole : (f : List ℕ → List ℕ) (known left : Option (List ℕ)) (buf : List ℕ) (n : ℕ) →
    ((xs ys : List ℕ) → length buf ≤ length xs → f xs ≡ f (xs ++ ys)) →
    n ≤ length buf → Consumes known left (take n buf) → (n < length buf → IsAtEnd left) → IfSome known (λ input. f (take n buf) ≡ f input)
whole f None left buf n same within bytes end = tt
whole f (Some xs) None buf n same within bytes end = elim bytes [ ]
whole f (Some xs) (Some ys) buf n same within bytes end = go (lt? n (length buf))
  where
    go : (n < length buf) ⊎ (length buf ≤ n) → f (take n buf) ≡ f xs
    go (inl h) = ap f (sym (append-nil (take n buf)) ∙ ap (λ l. take n buf ++ l) (sym (end h)) ∙ sym bytes)
    go (inr h) = same (take n buf) ys (omega (arith, length-take-le n buf within)) ∙ ap f (sym bytes)

-- a text that fits is the front of what it is written into
pub front : (out left text : List ℕ) (n : ℕ) → n ≤ length out → n ≡ length text → left ≡ written out 0 text → take n left ≡ text
unfolding written
front out left text n fits same is =
    ap (λ k. take k left) same ∙ ap (take (length text)) (is ∙ sets-eq text out 0 (omega arith)) ∙ take-append_seam text _

-- the bytes that are written are this text, and that is what f makes of the whole input
pub told : {T E : Type 0} (r : Result T E) (known w w' : Option (List ℕ)) (f : List ℕ → List ℕ) (bytes text : List ℕ) →
    bytes ≡ text → IfSome known (λ input. text ≡ f input) → OnOk r (Appends w w' bytes) → OnOk r (IfSome known (λ input. Appends w w' (f input)))
told (Err e) known w w' f bytes text is same h = tt
told (Ok x) None w w' f bytes text is same h = tt
told (Ok x) (Some xs) w w' f bytes text is same h = subst (Appends w w') (is ∙ same) h
