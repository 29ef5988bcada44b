-- The starred examples on bytes, by the demands and the model's examples.
use mathlib.Core.Path.{◌≡◌, refl, sym, ap, ◌∙◌}
use mathlib.Core.Logic.{◌⊎◌, inl, inr}
use mathlib.Core.Bool.{Bool, true, ◌&&◌}
use mathlib.Core.List.{List, [], ◌∷◌, map}
use Prim.Native.Nat.{ℕ, ◌-◌, ◌/◌, ◌≤◌, ◌<◌}
use native.Mathlib.Omega.{arith}
use lib.Dec.{leb, ltb}
use borrow.Author.Tests.{leb-true, ltb-true, lt-ltb, le-ltb, le-leb, lt-leb}
use Rattle.base.specs.Tests.{pick}
use Rattle.base.proofs.Cases.{and_true, lt?}
use Rattle.words.specs.Word.{Bytes}
use Rattle.records.specs.Class.{class_at}
use Rattle.model.specs.Classes.{max_pages, Need, nothing, chunk_of, pages, need_of}
use Rattle.model.specs.State.{State}
use Rattle.model.specs.Calls.{Call, fresh, step}
use Rattle.model.specs.Live.{World, next, run_from, begin}
use Rattle.model.specs.Examples.{Question, formats, sized, replies, tally_after, runs_after, Fact, Example, made, needed, replied, computed, examples}
use Rattle.model.proofs.Claim.{claims}
use Rattle.format.specs.Format.{shortest, too_long, format_outcome, formatted}
use Rattle.rules.specs.Read.{tally_of, read_fields}
use Rattle.rules.specs.Bytes.{image_of, fields_of, broken_rule, read}
use Rattle.drawing.proofs.Laws.{claims as laws-of}
use Rattle.demands.specs.Calls.{outcome, after}
use Rattle.demands.specs.Examples.{answers_on, slice_after, want, outcomes, runs, seen, as_seen, Accepted, ExamplesOnBytes}
use Rattle.demands.proofs.Calls.{sound-answer, after-sound, after_read, demand1}

-- ---- a list of calls on sound bytes

module _ (w : ℕ) (wide : 2 ≤ w) (narrow : w ≤ 255) where
  answers_are : (cs : List Call) (s : List ℕ) → Bytes s → broken_rule w s ≡ 0 → answers_on w s cs ≡ map outcome (replied (read w s) cs)
  unfolding replied
  answers_are [] s B e = refl
  answers_are (c ∷ cs) s B e =
      rw (sound-answer w wide narrow s B e c, answers_are cs (after w s c) ((demand1 w wide narrow s B).bytes-kept c) (after-sound w wide narrow s B e c), after_read w wide narrow s B e c)

  state-is : (cs : List Call) (s : List ℕ) → Bytes s → broken_rule w s ≡ 0 → (x : World) → x.state ≡ read w s → read w (slice_after w s cs) ≡ (run_from x cs).state
  unfolding run_from next
  state-is [] s B e x f = sym f
  state-is (c ∷ cs) s B e x f =
      state-is cs (after w s c) ((demand1 w wide narrow s B).bytes-kept c) (after-sound w wide narrow s B e c) (next x c)
      (ap (λ (m : State). (step m c).after) f ∙ sym (after_read w wide narrow s B e c))

-- the tallies of a class record are the state's
tally-is : (w : ℕ) (s : List ℕ) (c : ℕ) → c < 9 → ((class_at w s c).reqs ≡ ((read w s).tally c).reqs) × ((class_at w s c).fails ≡ ((read w s).tally c).fails)
unfolding read read_fields tally_of fields_of image_of pick
tally-is w s c h = (rw (lt-ltb c 9 h), rw (lt-ltb c 9 h))

-- ---- the questions

-- what format answers, by the length and by the page count that it gives
format_is : (n : ℕ) → outcomes (format_outcome 2 n ∷ []) ≡ as_seen (made ((n - 152) / 4112))
unfolding format_outcome pick made
format_is n = go (lt? n (shortest 2)) (lt? n (too_long 2))
  where
    go : (n < shortest 2) ⊎ (shortest 2 ≤ n) → (n < too_long 2) ⊎ (too_long 2 ≤ n) → outcomes (format_outcome 2 n ∷ []) ≡ as_seen (made ((n - 152) / 4112))
    go (inl h) y = rw (lt-ltb n (shortest 2) h, lt-ltb ((n - 152) / 4112) 1 (omega arith))
    go (inr h) (inl l) =
        rw (le-ltb n (shortest 2) h, lt-leb (too_long 2) n l, le-ltb ((n - 152) / 4112) 1 (omega arith), le-ltb max_pages ((n - 152) / 4112) (omega arith))
    go (inr h) (inr l) =
        rw (le-ltb n (shortest 2) h, le-leb (too_long 2) n l, le-ltb ((n - 152) / 4112) 1 (omega arith), lt-ltb max_pages ((n - 152) / 4112) (omega arith))

-- a question about a pool that there can be, and a class
fits : Question → Bool
fits (formats n) = true
fits (sized n) = true
fits (replies P cs) = leb 1 P && leb P max_pages
fits (tally_after P cs c) = (leb 1 P && leb P max_pages) && ltb c 9
fits (runs_after P cs) = leb 1 P && leb P max_pages

module _ (slice : ℕ → List ℕ) (ok : (P : ℕ) → 1 ≤ P → P ≤ max_pages → Accepted P (slice P)) where
  module _ (P : ℕ) (t : leb 1 P && leb P max_pages ≡ true) where
    A : Accepted P (slice P)
    A = let x = and_true _ _ t in ok P (leb-true _ _ x.0) (leb-true _ _ x.1)

    abbrev s : List ℕ
    s = formatted 2 (slice P)

    bytes : Bytes s
    bytes = (laws-of 2 (omega arith) (omega arith) (slice P) A.bytes).format_bytes A.some A.most

    sound : broken_rule 2 s ≡ 0
    sound = (laws-of 2 (omega arith) (omega arith) (slice P) A.bytes).format_sound A.some A.most

    reads : read 2 s ≡ fresh P
    reads = (laws-of 2 (omega arith) (omega arith) (slice P) A.bytes).format_read A.some A.most ∙ ap fresh A.pages

    after_calls : (cs : List Call) → read 2 (slice_after 2 s cs) ≡ (run_from (begin P) cs).state
    unfolding begin
    after_calls cs = state-is 2 (omega arith) (omega arith) cs s bytes sound (begin P) (sym reads)

  seen-is : (q : Question) → fits q ≡ true → seen slice q ≡ as_seen (computed q)
  unfolding fits
  seen-is (formats n) t = format_is n
  seen-is (sized n) t = want_is (need_of n)
    where
      want_is : (x : Need) → want (needed x) ≡ as_seen (needed x)
      want_is nothing = refl
      want_is (chunk_of c) = refl
      want_is (pages k) = refl
  seen-is (replies P cs) t =
      ap outcomes (answers_are 2 (omega arith) (omega arith) cs (s P t) (bytes P t) (sound P t) ∙ ap (λ (m : State). map outcome (replied m cs)) (reads P t))
  seen-is (tally_after P cs c) t =
      let x = and_true _ _ t in
      let k = tally-is 2 (slice_after 2 (s P x.0) cs) c (ltb-true _ _ x.1) in
      let e = after_calls P x.0 cs in
      rw (k.0, k.1, e)
  seen-is (runs_after P cs) t = ap (λ (m : State). runs m.runs) (after_calls P t cs)

  seen_all : (xs : List Example) → map (λ (x : Example). fits x.question) xs ≡ map (λ (x : Example). true) xs →
      map (λ (x : Example). seen slice x.question) xs ≡ map (λ (x : Example). as_seen (computed x.question)) xs
  seen_all [] e = refl
  seen_all (x ∷ xs) e = rw (seen-is x.question (cc), seen_all xs (cc))

asked : (xs : List Example) (fs : List Fact) → map (λ (x : Example). computed x.question) xs ≡ fs → map (λ (x : Example). as_seen (computed x.question)) xs ≡ map as_seen fs
asked xs fs e = go xs ∙ ap (map as_seen) e
  where
    go : (ys : List Example) → map (λ (x : Example). as_seen (computed x.question)) ys ≡ map as_seen (map (λ (x : Example). computed x.question) ys)
    go [] = refl
    go (y ∷ ys) = rw (go ys)

facts : (xs : List Example) → map as_seen (map (λ (x : Example). x.fact) xs) ≡ map (λ (x : Example). as_seen x.fact) xs
facts [] = refl
facts (x ∷ xs) = rw (facts xs)

all_fit : map (λ (x : Example). fits x.question) examples ≡ map (λ (x : Example). true) examples
unfolding examples fits
all_fit = refl

pub examples_on_bytes : ExamplesOnBytes
examples_on_bytes slice ok =
    seen_all slice ok examples all_fit ∙ asked examples (map (λ (x : Example). x.fact) examples) claims.examples_hold ∙ facts examples
