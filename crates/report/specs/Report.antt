-- What the report program prints of a pool's image (SPEC 11): its pages, its classes, its runs in page order, its live blocks in order of
-- offset; or the number of the first rule that it breaks.
use Rattle.std.specs.Prelude.{ℕ, zero, suc, List, [], ◌∷◌, ◌++◌, eqb, ltb, length}
use Rattle.base.specs.Tests.{pick}
use Rattle.base.specs.Count.{count}
use Rattle.answers.specs.declared.Refusal.TheVariants.{TooLong}
use Rattle.model.specs.Classes.{chunk}
use Rattle.model.specs.State.{State}
use Rattle.model.specs.View.{Kind, vacant, class, run_of, within, View, is_class, shown}
use Rattle.model.specs.Live.{blocks}
use Rattle.rules.specs.Bytes.{broken_rule, read}
use Rattle.printing.specs.Text.{line, lines_of}
use Rattle.script_replies.specs.Replies.{pool_word, refusal_line}
use Rattle.report_lines.specs.Lines.{class_line, Span, free_span, taken_span, span_line, block_line}

-- an image with room for 13 pages or more is too long
abbrev pub too_long : ℕ
too_long = 53608

-- ---- classes

-- the pages of class c, full ones too
unfoldable pub class_pages : (v : View) (c : ℕ) → ℕ
class_pages v c = count (λ p. is_class c (v.page p)) v.size

unfoldable pub class_text : (m : State) (c : ℕ) → List ℕ
class_text m c = class_line (chunk c) (class_pages (shown m) c) ((shown m).used c) ((shown m).total c) (m.tally c).reqs (m.tally c).fails

-- the classes below c
unfoldable pub classes_below : State → ℕ → List ℕ
classes_below m zero = []
classes_below m (suc c) = classes_below m c ++ class_text m c

-- ---- runs

-- the free run of so many pages that starts at page p; 0 where none does
unfoldable pub free_at : ℕ → ℕ → List Span
free_at p zero = []
free_at p (suc k) = free_span p (suc k) ∷ []

-- the taken run that starts at page p, which is of this kind
abbrev pub taken_at : ℕ → Kind → List Span
taken_at p vacant = []
taken_at p (class c) = []
taken_at p (run_of n) = taken_span p n ∷ []
taken_at p within = []

unfoldable pub spans_at : (v : View) (p : ℕ) → List Span
spans_at v p = free_at p (v.free_run p) ++ taken_at p (v.page p)

-- the runs that start below page p, in page order
unfoldable pub spans_below : View → ℕ → List Span
spans_below v zero = []
spans_below v (suc p) = spans_below v p ++ spans_at v p

unfoldable pub spans : State → List Span
spans m = spans_below (shown m) m.size

-- ---- all of it

unfoldable pub listing : State → List ℕ
listing m = classes_below m 9 ++ (lines_of span_line (spans m) ++ lines_of block_line (blocks m))

unfoldable pub report_of : State → List ℕ
report_of m = line pool_word m.size ++ listing m

-- the number alone of the first rule that does not hold
unfoldable pub judged_text : (image : List ℕ) (rule : ℕ) → List ℕ
judged_text image rule = pick (eqb rule 0) (report_of (read 2 image)) (line [] rule)

-- the whole printout
unfoldable pub printout : List ℕ → List ℕ
printout image = pick (ltb (length image) too_long) (judged_text image (broken_rule 2 image)) (refusal_line TooLong)
