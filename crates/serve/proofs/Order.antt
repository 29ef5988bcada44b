-- Requests in order, whatever each is answered and leaves: two lists in a row, one request more, and a turn of the loop.
use mathlib.Core.Path.{◌≡◌, sym, ap, ◌∙◌}
use mathlib.Core.List.{List, [], ◌∷◌, ◌++◌}
use Prim.Native.Nat.{ℕ, suc, ◌+◌, ◌<◌}
use native.Mathlib.Numerals.{add-one}
use native.Mathlib.Omega.{arith}
use lib.ListN.{length, get_or, set, take, drop}
use lib.Seq.{take-suc, drop-cons, set_at, append_snoc, length-take-le}

-- the two lists by recursion, each request on what the one before left
pub record InOrder (reply : List ℕ → ℕ → ℕ) (left : List ℕ → ℕ → List ℕ) (replies leftByAll : List ℕ → List ℕ → List ℕ) : Type 0 where
  pub no-reply : (s : List ℕ) → replies s [] ≡ []
  pub one_reply : (s : List ℕ) (x : ℕ) (xs : List ℕ) → replies s (x ∷ xs) ≡ reply s x ∷ replies (left s x) xs
  pub none_left : (s : List ℕ) → leftByAll s [] ≡ s
  pub one_left : (s : List ℕ) (x : ℕ) (xs : List ℕ) → leftByAll s (x ∷ xs) ≡ leftByAll (left s x) xs

module _ {reply : List ℕ → ℕ → ℕ} {left : List ℕ → ℕ → List ℕ} {replies leftByAll : List ℕ → List ℕ → List ℕ}
    (O : InOrder reply left replies leftByAll) where
  pub left_append : (s xs ys : List ℕ) → leftByAll s (xs ++ ys) ≡ leftByAll (leftByAll s xs) ys
  left_append s [] ys = rw (O.none_left s)
  left_append s (x ∷ xs) ys = rw (O.one_left s x (xs ++ ys), O.one_left s x xs) (left_append (left s x) xs ys)

  pub replies_append : (s xs ys : List ℕ) → replies s (xs ++ ys) ≡ replies s xs ++ replies (leftByAll s xs) ys
  replies_append s [] ys = rw (O.none_left s, O.no-reply s)
  replies_append s (x ∷ xs) ys =
      rw (O.one_reply s x (xs ++ ys), O.one_reply s x xs, O.one_left s x xs) (ap (λ (l : List ℕ). reply s x ∷ l) (replies_append (left s x) xs ys))

  pub length-replies : (s xs : List ℕ) → length (replies s xs) ≡ length xs
  length-replies s [] = rw (O.no-reply s)
  length-replies s (x ∷ xs) = rw (O.one_reply s x xs) (ap suc (length-replies (left s x) xs))

  one_replies : (s : List ℕ) (x : ℕ) → replies s (x ∷ []) ≡ reply s x ∷ []
  one_replies s x = rw (O.one_reply s x [], O.no-reply (left s x))

  left_one : (s : List ℕ) (x : ℕ) → leftByAll s (x ∷ []) ≡ left s x
  left_one s x = O.one_left s x [] ∙ O.none_left (left s x)

  -- a list of one
  pub one_served : (s : List ℕ) (x : ℕ) (a rest u : List ℕ) → u ≡ leftByAll s (x ∷ []) → a ≡ replies s (x ∷ []) ++ rest →
      (get_or a 0 0 ≡ reply s x) × (u ≡ left s x)
  one_served s x a rest u e f = (rw (f, one_replies s x), e ∙ left_one s x)

  module _ (s xs : List ℕ) (i : ℕ) (h : i < length xs) where
    one_more : take (i + 1) xs ≡ take i xs ++ (get_or xs i 0 ∷ [])
    one_more = rw add-one (take-suc xs i 0 h)

    left_more : leftByAll s (take (i + 1) xs) ≡ left (leftByAll s (take i xs)) (get_or xs i 0)
    left_more = ap (leftByAll s) one_more ∙ left_append s (take i xs) (get_or xs i 0 ∷ []) ∙ left_one (leftByAll s (take i xs)) (get_or xs i 0)

    -- the store of the answer at i
    replies_more : (a : List ℕ) → i < length a →
        set (replies s (take i xs) ++ drop i a) i (reply (leftByAll s (take i xs)) (get_or xs i 0)) ≡ replies s (take (i + 1) xs) ++ drop (i + 1) a
    replies_more a l =
        let u = leftByAll s (take i xs) in
        let v = reply u (get_or xs i 0) in
        let prev = replies s (take i xs) in
        let n : length prev ≡ i = length-replies s (take i xs) ∙ length-take-le i xs (omega arith) in
        let next : replies s (take (i + 1) xs) ≡ prev ++ (v ∷ []) =
        ap (replies s) one_more ∙ replies_append s (take i xs) (get_or xs i 0 ∷ []) ∙ ap (λ (r : List ℕ). prev ++ r) (one_replies u (get_or xs i 0)) in
        ap (λ (r : List ℕ). set (prev ++ r) i v) (drop-cons a i 0 l)
        ∙ set_at prev (get_or a i 0) (drop (suc i) a) v i n
        ∙ sym (append_snoc prev v (drop (suc i) a))
        ∙ ap (λ (r : List ℕ). r ++ drop (suc i) a) (sym next)
        ∙ ap (λ (k : ℕ). replies s (take (i + 1) xs) ++ drop k a) (sym (add-one i))

    -- a turn of the loop: the request's two results, the answer stored
    pub turn : (a₀ u a v : List ℕ) (r : ℕ) → i < length a₀ → u ≡ leftByAll s (take i xs) → a ≡ replies s (take i xs) ++ drop i a₀ →
        r ≡ reply u (get_or xs i 0) → v ≡ left u (get_or xs i 0) →
        (v ≡ leftByAll s (take (i + 1) xs)) × (set a i r ≡ replies s (take (i + 1) xs) ++ drop (i + 1) a₀)
    turn a₀ u a v r l e f g k = (
      k ∙ ap (λ (t : List ℕ). left t (get_or xs i 0)) e ∙ sym left_more,
      ap (λ (t : List ℕ). set t i r) f
          ∙ ap (λ (x : ℕ). set (replies s (take i xs) ++ drop i a₀) i x) (g ∙ ap (λ (t : List ℕ). reply t (get_or xs i 0)) e)
          ∙ replies_more a₀ l,
    )
