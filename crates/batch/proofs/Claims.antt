-- The claims on batches.
use mathlib.Core.Path.{◌≡◌, refl, sym, ap, ◌∙◌}
use mathlib.Core.Logic.{◌⊎◌, inl, inr, ◌≢◌}
use mathlib.Core.List.{List, [], ◌∷◌, ◌++◌, append_assoc, append-nil}
use mathlib.Core.Option.{Option, none, some}
use Prim.Native.Nat.{ℕ, zero, suc, ◌+◌, ◌-◌, ◌≤◌, ◌<◌}
use native.Mathlib.Omega.{arith}
use lib.ListN.{length, get_or, take, drop, length-append, length-drop, drop_of_length-le, get_or-append}
use lib.Seq.{get_or-append-add, get_or-drop, drop-append-add}
use Rattle.base.proofs.Cases.{eq?}
use Rattle.words.specs.Word.{Bytes}
use Rattle.answer_words.specs.Word.{word_of}
use Rattle.model.specs.Calls.{Call}
use Rattle.model.specs.Live.{Block}
use Rattle.rules.specs.Bytes.{broken_rule}
use Rattle.serve.proofs.Order.{left_append, replies_append, length-replies}
use Rattle.demands.specs.Demands.{Reached}
use Rattle.demands.specs.Examples.{slice_after}
use Rattle.demands.proofs.Calls.{demand1}
use Rattle.demands.proofs.Turns.{demand3}
use Rattle.demands.proofs.BookCorollaries.{next}
use Rattle.batch.specs.Batch.{call_in, outcome_on, slice_on, reply_to, left_by, replies, left_by_all, batch_pool, batch_answers}
use Rattle.batch.specs.Claim.{with_call, calls_in, outcome_in, fed_with, fed_all, Served, Claims}
use Rattle.sound_pools.specs.Sound.{Validated}
use Rattle.batch.proofs.Serving.{in_order, stays_valid}
use Rattle.batch.proofs.Whole.{is-short, is-unsound, is-granted, pool-is, answers_are}
use Rattle.batch.proofs.Words.{told}

-- ---- single calls

module _ (w : ℕ) where
  one_call : (s : List ℕ) (q : Option Call) (calls : List Call) → slice_after w (slice_on w s q) calls ≡ slice_after w s (with_call q calls)
  one_call s none calls = refl
  one_call s (some call) calls = refl

  single_calls : (s xs : List ℕ) → left_by_all w s xs ≡ slice_after w s (calls_in xs)
  unfolding left_by_all left_by
  single_calls s [] = refl
  single_calls s (x ∷ xs) = single_calls (left_by w s x) xs ∙ one_call s (call_in x) (calls_in xs)

  reply-at : (s xs : List ℕ) (i : ℕ) → i < length xs → get_or (replies w s xs) i 0 ≡ reply_to w (left_by_all w s (take i xs)) (get_or xs i 0)
  unfolding replies left_by_all
  reply-at s [] i h = absurd (omega arith)
  reply-at s (x ∷ xs) zero h = refl
  reply-at s (x ∷ xs) (suc i) h = reply-at (left_by w s x) xs i (omega arith)

  all_valid : {s : List ℕ} {pages : ℕ} → Validated w s pages → (xs : List ℕ) → Validated w (left_by_all w s xs) pages
  unfolding left_by_all
  all_valid G [] = G
  all_valid {s = s} {pages = pages} G (x ∷ xs) = all_valid {s = left_by w s x} {pages = pages} (stays_valid G x) xs

  module _ (wide : 2 ≤ w) (narrow : w ≤ 255) (s : List ℕ) (B : Bytes s) where
    module _ (sound : broken_rule w s ≡ 0) where
      still_sound : (xs : List ℕ) → broken_rule w (left_by_all w s xs) ≡ 0
      still_sound xs = (all_valid (record { pool = record { wide = wide; narrow = narrow; bytes = B; sound = sound }; counted = refl }) xs).pool.sound

      is-served : (xs a : List ℕ) → length xs ≤ length a → Served w s xs a
      unfolding reply_to
      is-served xs a h =
          let e = answers_are w s xs a h sound in
          let n = length-replies (in_order w) s xs in
          record {
            outcome = is-granted w s xs a h sound;
            pool = pool-is w s xs a h sound ∙ single_calls s xs;
            sound = ap (broken_rule w) (pool-is w s xs a h sound) ∙ still_sound xs;
            answer = λ i l. ap (λ (r : List ℕ). get_or r i 0) e ∙ at-request i l;
            beyond = λ i l. ap (λ (r : List ℕ). get_or r i 0) e ∙ past_requests i l;
            places = ap length e ∙ simp (length-append, length-drop) (omega arith);
          }
        where
          at-request : (i : ℕ) → i < length xs →
              get_or (replies w s xs ++ drop (length xs) a) i 0 ≡ word_of (outcome_on w (slice_after w s (calls_in (take i xs))) (call_in (get_or xs i 0)))
          at-request i l =
              get_or-append (replies w s xs) (drop (length xs) a) 0 i (rw (length-replies (in_order w) s xs) l)
              ∙ reply-at s xs i l
              ∙ ap (λ (u : List ℕ). reply_to w u (get_or xs i 0)) (single_calls s (take i xs))

          past_requests : (i : ℕ) → length xs ≤ i → get_or (replies w s xs ++ drop (length xs) a) i 0 ≡ get_or a i 0
          past_requests i l =
              let n = length-replies (in_order w) s xs in
              let e : i ≡ length (replies w s xs) + (i - length xs) = omega arith in
              ap (λ (k : ℕ). get_or (replies w s xs ++ drop (length xs) a) k 0) e
              ∙ get_or-append-add (replies w s xs) (drop (length xs) a) (i - length xs) 0
              ∙ get_or-drop (length xs) a (i - length xs) 0
              ∙ ap (λ (k : ℕ). get_or a k 0) (omega arith)

    -- ---- a batch cut in two

    module _ (xs ys a b : List ℕ) (e : length xs ≡ length a) (h : length ys ≤ length b) where
      abbrev Cut : Type 0
      Cut = (batch_pool w s (xs ++ ys) (a ++ b) ≡ batch_pool w (batch_pool w s xs a) ys b) ×
          (batch_answers w s (xs ++ ys) (a ++ b) ≡ batch_answers w s xs a ++ batch_answers w (batch_pool w s xs a) ys b)

      room : length (xs ++ ys) ≤ length (a ++ b)
      room = simp length-append (omega arith)

      no_more : drop (length xs) a ≡ []
      no_more = drop_of_length-le a {i = length xs} (omega arith)

      rest : drop (length (xs ++ ys)) (a ++ b) ≡ drop (length ys) b
      rest = rw (length-append, e) (drop-append-add a b (length ys))

      cut : Cut
      cut = go (eq? (broken_rule w s) 0)
        where
          go : (broken_rule w s ≡ 0) ⊎ (broken_rule w s ≢ 0) → Cut
          go (inl z) =
              let p = pool-is w s xs a (omega arith) z in
              let t = left_by_all w s xs in
              let y = still_sound z xs in
              let first : batch_answers w s xs a ≡ replies w s xs = answers_are w s xs a (omega arith) z ∙ rw no_more (append-nil (replies w s xs)) in (
                pool-is w s (xs ++ ys) (a ++ b) room z ∙ left_append (in_order w) s xs ys ∙ sym (rw p (pool-is w t ys b h y)),
                answers_are w s (xs ++ ys) (a ++ b) room z
                    ∙ rw (replies_append (in_order w) s xs ys, rest, p, first, answers_are w t ys b h y) (append_assoc (replies w s xs) (replies w t ys) (drop (length ys) b)),
              )
          go (inr n) =
              let whole = is-unsound w s (xs ++ ys) (a ++ b) room n in
              let first = is-unsound w s xs a (omega arith) n in
              let second = is-unsound w s ys b h n in
              (whole.pool ∙ sym (rw first.pool second.pool), whole.places ∙ sym (rw (first.pool, first.places, second.places)))

-- ---- turns

module _ (w : ℕ) (wide : 2 ≤ w) (narrow : w ≤ 255) (s : List ℕ) (C : Bytes s) where
  one_fed : {B : List Block} {u : List ℕ} → Reached w s B u → (q : Option Call) →
      Reached w s (fed_with B q (outcome_in (word_of (outcome_on w u q)))) (slice_on w u q)
  one_fed R none = R
  one_fed {B} {u} R (some call) =
      rw (told w wide narrow u R.since.1 call)
      (next w wide narrow s C R call
      (record { lengths = refl; records = λ i _. refl; maps = λ p _ _ _ j _. refl }, (demand1 w wide narrow u R.since.1).bytes-kept call))

  all-fed : {B : List Block} {u : List ℕ} → Reached w s B u → (xs rest : List ℕ) → Reached w s (fed_all B xs (replies w u xs ++ rest)) (left_by_all w u xs)
  unfolding replies left_by_all reply_to left_by
  all-fed R [] rest = R
  all-fed {B} {u} R (x ∷ xs) rest = all-fed {B = fed_with B (call_in x) (outcome_in (word_of (outcome_on w u (call_in x))))} {u = slice_on w u (call_in x)} (one_fed R (call_in x)) xs rest

pub claims : Claims
claims w wide narrow s C = record {
  too_short = is-short w s;
  unsound = is-unsound w s;
  served = λ xs a h z. is-served w wide narrow s C z xs a h;
  cut-pool = λ xs ys a b e h. (cut w wide narrow s C xs ys a b e h).0;
  cut-answers = λ xs ys a b e h. (cut w wide narrow s C xs ys a b e h).1;
  told = told w wide narrow s C;
  reached = λ B u R xs a h.
      let z = (demand3 w wide narrow s C B u R).sound in
      (is-granted w u xs a h z, rw (pool-is w u xs a h z, answers_are w u xs a h z) (all-fed w wide narrow s C R xs (drop (length xs) a)));
}
