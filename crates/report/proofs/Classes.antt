-- The line of a class, from its record.
use mathlib.Core.Path.{◌≡◌, refl, ◌∙◌, ap}
use mathlib.Core.Bool.{false, not}
use mathlib.Core.List.{List}
use Prim.Native.Nat.{ℕ, ◌/◌, ◌≤◌, ◌<◌}
use native.Mathlib.Omega.{arith}
use native.Mathlib.Nat.{mul-div_cancel}
use lib.Dec.{ltb}
use borrow.Author.Tests.{lt-ltb, ltb-true, not-false}
use Rattle.base.specs.Tests.{pick}
use Rattle.base.specs.Search.{least, any}
use Rattle.base.proofs.Search.{any_false}
use Rattle.model.specs.Classes.{chunk, chunks, own, counted}
use Rattle.model.specs.View.{View, total_in, shown}
use Rattle.records.specs.Class.{class_at}
use Rattle.records.specs.declared.ClassRecord.{ClassRecord}
use Rattle.rules.specs.Read.{tally_of, read_fields}
use Rattle.rules.specs.Bytes.{image_of, fields_of, read}
use Rattle.demands.specs.Shown.{field_view, shown_by}
use Rattle.demands.proofs.Calls.{view-is}
use Rattle.printing.specs.Text.{Prints}
use Rattle.report_lines.specs.Lines.{class_line}
use Rattle.report.specs.Report.{class_pages, class_text}
use Rattle.report.specs.Mirror.{Sound}

some-counted : any (λ c. not (ltb 0 (counted c))) 9 ≡ false
unfolding any least counted chunks own
some-counted = refl

pub counted-some : (c : ℕ) → c ≤ 8 → 0 < counted c
counted-some c h = ltb-true 0 (counted c) (not-false _ (any_false (λ d. not (ltb 0 (counted d))) 9 some-counted c (omega arith)))

module _ (s : List ℕ) (n : ℕ) (S : Sound s n) where
  pub view : shown_by 2 s ≡ shown (read 2 s)
  view = view-is 2 (omega arith) (omega arith) s S.bytes S.rules

  module _ (c : ℕ) (h : c ≤ 8) where
    small : c < 9
    small = omega (arith, h)

    used-is : (class_at 2 s c).used ≡ (shown (read 2 s)).used c
    unfolding shown_by field_view fields_of image_of pick
    used-is = rw (lt-ltb c 9 small) at (ap (λ (v : View). v.used c) view)

    total-is : (class_at 2 s c).total ≡ (shown (read 2 s)).total c
    unfolding shown_by field_view fields_of image_of pick
    total-is = rw (lt-ltb c 9 small) at (ap (λ (v : View). v.total c) view)

    pages_are : (shown (read 2 s)).total c / counted c ≡ class_pages (shown (read 2 s)) c
    unfolding shown total_in class_pages
    pages_are = mul-div_cancel _ (counted-some c h)

    asks_are : (class_at 2 s c).reqs ≡ ((read 2 s).tally c).reqs
    unfolding read read_fields tally_of fields_of image_of pick
    asks_are = rw (lt-ltb c 9 small)

    failures_are : (class_at 2 s c).fails ≡ ((read 2 s).tally c).fails
    unfolding read read_fields tally_of fields_of image_of pick
    failures_are = rw (lt-ltb c 9 small)

    pub class_does : (r : ClassRecord) (pages : ℕ) (u v : List ℕ) (k a : ℕ) → r ≡ class_at 2 s c → pages ≡ r.total / counted c →
        Prints u v k a (class_line (chunk c) pages r.used r.total r.reqs r.fails) → Prints u v k a (class_text (read 2 s) c)
    unfolding class_text
    class_does r pages u v k a e d p =
        rw (← used-is, ← total-is, ← asks_are, ← failures_are, ← e) (rw (← cut) p)
      where
        cut : pages ≡ class_pages (shown (read 2 s)) c
        cut = d ∙ ap (λ (x : ClassRecord). x.total / counted c) e ∙ ap (λ (x : ℕ). x / counted c) total-is ∙ pages_are
