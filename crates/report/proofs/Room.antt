-- How long the parts of a report are.
use mathlib.Core.Path.{◌≡◌, refl}
use mathlib.Core.Bool.{Bool, true, false, cond, ◌&&◌}
use mathlib.Core.List.{List, [], ◌∷◌, ◌++◌}
use Prim.Native.Nat.{ℕ, zero, suc, ◌+◌, ◌*◌, ◌≤◌, ◌<◌}
use native.Mathlib.Omega.{arith}
use lib.Dec.{eqb, leb, ltb}
use lib.ListN.{length, length-append}
use borrow.Author.Tests.{ltb-true}
use Rattle.base.specs.Tests.{pick}
use Rattle.answers.specs.declared.Refusal.TheVariants.{TooLong}
use Rattle.model.specs.Classes.{chunk, chunks, own}
use Rattle.model.specs.State.{Page, idle, slab, taken, inside, edge, State}
use Rattle.model.specs.View.{Kind, vacant, class, run_of, within, View, shown}
use Rattle.model.specs.Live.{small, chunks_on, blocks_on, blocks_below, blocks}
use Rattle.classes.proofs.Numbers.{chunks_512}
use Rattle.rules.specs.Read.{read_fields}
use Rattle.rules.specs.Bytes.{pages_in, broken_rule, read}
use Rattle.printing.specs.Text.{line, lines_of}
use Rattle.script_replies.specs.Replies.{pool_word, no_word, refusal_line}
use Rattle.report_lines.specs.Lines.{span_line, block_line}
use Rattle.report_lines.proofs.Room.{line-few, class-few, span_few, block_few, lines-few}
use Rattle.report.specs.Report.{too_long, class_text, classes_below, free_at, taken_at, spans_at, spans_below, spans, listing, report_of, judged_text, printout}
use Rattle.report.specs.Mirror.{Sound}

text-few : (m : State) (c : ℕ) → length (class_text m c) ≤ 103
unfolding class_text
text-few m c = class-few _ _ _ _ _ _

pub classes-few : (m : State) (c : ℕ) → length (classes_below m c) ≤ 103 * c
unfolding classes_below
classes-few m zero = omega arith
classes-few m (suc c) = omega (arith, length-append (classes_below m c) (class_text m c), text-few m c, classes-few m c)

-- ---- runs

free-few : (p k : ℕ) → length (free_at p k) ≤ 1
unfolding free_at
free-few p zero = omega arith
free-few p (suc k) = omega arith

taken-few : (p : ℕ) (x : Kind) → length (taken_at p x) ≤ 1
taken-few p vacant = omega arith
taken-few p (class c) = omega arith
taken-few p (run_of n) = omega arith
taken-few p within = omega arith

spans-short : (v : View) (p : ℕ) → length (spans_below v p) ≤ 2 * p
unfolding spans_below spans_at
spans-short v zero = omega arith
spans-short v (suc p) =
    omega (
      arith,
      length-append (spans_below v p) (free_at p (v.free_run p) ++ taken_at p (v.page p)),
      length-append (free_at p (v.free_run p)) (taken_at p (v.page p)),
      free-few p (v.free_run p),
      taken-few p (v.page p),
      spans-short v p,
    )

pub spans-few : (v : View) (p : ℕ) → length (lines_of span_line (spans_below v p)) ≤ 68 * p
spans-few v p = omega (arith, lines-few span_line span_few (spans_below v p), spans-short v p)

pub runs-few : (s : List ℕ) (n : ℕ) → Sound s n → length (lines_of span_line (spans (read 2 s))) ≤ 816
unfolding spans read read_fields
runs-few s n S = omega (arith, spans-few (shown (read 2 s)) (pages_in 2 s), S.pages, S.few)

-- ---- blocks

module _ (c p : ℕ) (m : ℕ → Bool) where
  chunks-short : (i : ℕ) → length (chunks_on c p m i) ≤ i
  unfolding chunks_on
  chunks-short zero = omega arith
  chunks-short (suc i) =
      omega (
        arith,
        length-append (chunks_on c p m i) (cond (leb (own c) i && m i) (small (4096 * p + chunk c * i) c ∷ []) []),
        one (leb (own c) i && m i),
        chunks-short i,
      )
    where
      one : (t : Bool) → length (cond t (small (4096 * p + chunk c * i) c ∷ []) []) ≤ 1
      one true = omega arith
      one false = omega arith

  pub chunks-few : (i : ℕ) → length (lines_of block_line (chunks_on c p m i)) ≤ 34 * i
  chunks-few i = omega (arith, lines-few block_line block_few (chunks_on c p m i), chunks-short i)

on_short : (x : Page) (p : ℕ) → length (blocks_on x p) ≤ 512
on_short idle p = omega arith
on_short (slab c m) p = omega (arith, chunks-short c p m (chunks c), chunks_512 c)
on_short (taken n) p = omega arith
on_short inside p = omega arith
on_short edge p = omega arith

below-short : (f : ℕ → Page) (p : ℕ) → length (blocks_below f p) ≤ 512 * p
unfolding blocks_below
below-short f zero = omega arith
below-short f (suc p) = omega (arith, length-append (blocks_below f p) (blocks_on (f p) p), on_short (f p) p, below-short f p)

pub blocks-few : (f : ℕ → Page) (p : ℕ) → length (lines_of block_line (blocks_below f p)) ≤ 17408 * p
blocks-few f p = omega (arith, lines-few block_line block_few (blocks_below f p), below-short f p)

-- ---- all of it

listing-few : (m : State) → m.size ≤ 12 → length (listing m) ≤ 262000
unfolding listing spans blocks
listing-few m h =
    omega (
      arith,
      h,
      length-append (classes_below m 9) (lines_of span_line (spans_below (shown m) m.size) ++ lines_of block_line (blocks_below m.page m.size)),
      length-append (lines_of span_line (spans_below (shown m) m.size)) (lines_of block_line (blocks_below m.page m.size)),
      classes-few m 9,
      spans-few (shown m) m.size,
      blocks-few m.page m.size,
    )

size_few : (image : List ℕ) → length image < too_long → (read 2 image).size ≤ 12
unfolding read read_fields
size_few image h = omega (arith, h)

report_few : (image : List ℕ) → length image < too_long → length (report_of (read 2 image)) ≤ 262144
unfolding report_of
report_few image h =
    omega (
      arith,
      length-append (line pool_word (read 2 image).size) (listing (read 2 image)),
      line-few pool_word (read 2 image).size,
      listing-few (read 2 image) (size_few image h),
    )

pub fits : (image : List ℕ) → length (printout image) ≤ 262144
unfolding printout judged_text refusal_line pick
fits image = go (ltb (length image) too_long) refl (eqb (broken_rule 2 image) 0)
  where
    go : (t : Bool) → ltb (length image) too_long ≡ t → (b : Bool) →
        length (pick t (pick b (report_of (read 2 image)) (line [] (broken_rule 2 image))) (refusal_line TooLong)) ≤ 262144
    go true e true = report_few image (ltb-true (length image) too_long e)
    go true e false = omega (arith, line-few [] (broken_rule 2 image))
    go false e b = omega (arith, line-few no_word 2)
