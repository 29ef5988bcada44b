-- The runs that start at a page, from its record.
use mathlib.Core.Path.{◌≡◌, refl, sym, ◌∙◌, ap, subst}
use mathlib.Core.Logic.{◌≢◌}
use mathlib.Core.Bool.{Bool}
use mathlib.Core.List.{List, [], ◌∷◌, ◌++◌, append-nil}
use Prim.Native.Nat.{ℕ, zero, suc, ◌+◌, ◌≤◌, ◌<◌}
use native.Mathlib.Numerals.{add-one}
use native.Mathlib.Omega.{arith}
use lib.Dec.{eqb}
use borrow.Author.Tests.{lt-ltb, eq-eqb, ne_eqb}
use Rattle.base.specs.Tests.{pick}
use Rattle.model.specs.View.{View, kind_of, shown}
use Rattle.records.specs.Page.{links_at}
use Rattle.records.specs.declared.Links.{Links}
use Rattle.rules.specs.Fields.{kind, class, run, page_of, page_at}
use Rattle.rules.specs.Read.{is_head, read_fields}
use Rattle.rules.specs.Bytes.{pages_in, image_of, fields_of, read}
use Rattle.rules.proofs.Judged.{judged}
use Rattle.demands.specs.Shown.{field_view, shown_by}
use Rattle.printing.specs.Text.{lines_of, Prints}
use Rattle.printing.proofs.Writing.{prints_none, prints_then, lines_append}
use Rattle.report_lines.specs.Lines.{free_span, taken_span, span_line}
use Rattle.report.specs.Report.{free_at, taken_at, spans_at, spans_below, spans}
use Rattle.report.specs.Mirror.{Sound, spans_of}
use Rattle.report.proofs.Classes.{view}

-- ---- one page

-- a text of one line, and of none
pub one_line : {A : Type 0} (f : A → List ℕ) (x : A) (xs : List A) (u v : List ℕ) (n r : ℕ) → xs ≡ x ∷ [] → Prints u v n r (f x) → Prints u v n r (lines_of f xs)
one_line f x xs u v n r e p = rw (e, append-nil (f x)) p

pub no_line : {A : Type 0} (f : A → List ℕ) (xs : List A) (u : List ℕ) (n : ℕ) → xs ≡ [] → Prints u u n n (lines_of f xs)
no_line f xs u n e = rw e (prints_none u n)

module _ (k p len : ℕ) where
  pub free_kind : k ≡ 1 → spans_of k p len ≡ free_span p len ∷ []
  unfolding spans_of pick
  free_kind e = rw (eq-eqb k 1 e)

  pub taken-kind : k ≢ 1 → k ≡ 3 → spans_of k p len ≡ taken_span p len ∷ []
  unfolding spans_of pick
  taken-kind d e = rw (ne_eqb k 1 d, eq-eqb k 3 e)

  pub other_kind : k ≢ 1 → k ≢ 3 → spans_of k p len ≡ []
  unfolding spans_of pick
  other_kind d e = rw (ne_eqb k 1 d, ne_eqb k 3 e)

free-some : (p len : ℕ) → 1 ≤ len → free_at p len ≡ free_span p len ∷ []
unfolding free_at
free-some p zero h = absurd (omega arith)
free-some p (suc k) h = refl

by_kind_lem : (k p c len : ℕ) (m : ℕ → Bool) → (k ≡ 1 → 1 ≤ len) → spans_of k p len ≡ free_at p (pick (eqb k 1) len 0) ++ taken_at p (kind_of (page_of k c len m))
unfolding spans_of free_at pick
by_kind_lem zero p c len m h = refl
by_kind_lem (suc zero) p c len m h = sym (append-nil (free_at p len) ∙ free-some p len (h refl))
by_kind_lem (suc (suc zero)) p c len m h = refl
by_kind_lem (suc (suc (suc zero))) p c len m h = refl
by_kind_lem (suc (suc (suc (suc zero)))) p c len m h = refl
by_kind_lem (suc (suc (suc (suc (suc k))))) p c len m h =
    rw (ne_eqb (suc (suc (suc (suc (suc k))))) 1 (λ e. absurd (omega (arith, e))), ne_eqb (suc (suc (suc (suc (suc k))))) 3 (λ e. absurd (omega (arith, e))))

module _ (s : List ℕ) (n : ℕ) (S : Sound s n) (p : ℕ) (h : p < pages_in 2 s) where
  run-some : kind (fields_of 2 s) p ≡ 1 → 1 ≤ run (fields_of 2 s) p
  run-some e = (((judged 2 s).sound.0 S.rules).1.shape.kind1 p h e).fits.some-page

  free-is : (shown (read 2 s)).free_run p ≡ pick (eqb (kind (fields_of 2 s) p) 1) (run (fields_of 2 s) p) 0
  unfolding shown_by field_view is_head pick
  free-is = sym (ap (λ (v : View). v.free_run p) (view s n S)) ∙ rw (lt-ltb p (pages_in 2 s) h)

  page-is : (shown (read 2 s)).page p ≡ kind_of (page_of (kind (fields_of 2 s) p) (class (fields_of 2 s) p) (run (fields_of 2 s) p) ((fields_of 2 s).mark p))
  unfolding shown read read_fields page_at pick
  page-is = rw (lt-ltb p (pages_in 2 s) h)

  spans_are : spans_of (kind (fields_of 2 s) p) p (run (fields_of 2 s) p) ≡ spans_at (shown (read 2 s)) p
  unfolding spans_at
  spans_are = rw (free-is, page-is) (by_kind_lem _ p _ _ _ run-some)

  pub run_does : (l : Links) (u v : List ℕ) (k r : ℕ) → l ≡ links_at 2 s p → Prints u v k r (lines_of span_line (spans_of l.kind p l.run)) →
      Prints u v k r (lines_of span_line (spans_at (shown (read 2 s)) p))
  unfolding fields_of image_of
  run_does l u v k r e q = rw (← spans_are) (subst (λ (x : Links). Prints u v k r (lines_of span_line (spans_of x.kind p x.run))) e q)

-- ---- page by page

pub sound-pages : (s : List ℕ) (n : ℕ) → Sound s n → Sound s (pages_in 2 s)
sound-pages s n S = record { bytes = S.bytes; rules = S.rules; pages = refl; few = omega (arith, S.pages, S.few) }

pub inside-pages : (s : List ℕ) (n p : ℕ) → Sound s n → p < n → p < pages_in 2 s
inside-pages s n p S h = omega (arith, S.pages, h)

pub spans-none : (v : View) (u : List ℕ) (n : ℕ) → Prints u u n n (lines_of span_line (spans_below v 0))
unfolding spans_below
spans-none v u n = prints_none u n

pub spans_more : (v : View) (p : ℕ) (s t u : List ℕ) (n a r : ℕ) → Prints s t n a (lines_of span_line (spans_below v p)) → Prints t u a r (lines_of span_line (spans_at v p)) →
    Prints s u n r (lines_of span_line (spans_below v (p + 1)))
unfolding spans_below
spans_more v p s t u n a r x y =
    rw (add-one p) (subst (λ (text : List ℕ). Prints s u n r text) (sym (lines_append span_line (spans_below v p) (spans_at v p))) (prints_then s t u n a r _ _ x y))

pub spans_all : (s : List ℕ) (k p : ℕ) (u v : List ℕ) (n r : ℕ) → k ≡ pages_in 2 s → p ≤ k → k ≤ p → Prints u v n r (lines_of span_line (spans_below (shown (read 2 s)) p)) →
    Prints u v n r (lines_of span_line (spans (read 2 s)))
unfolding spans read read_fields
spans_all s k p u v n r e h l q =
    let z : p ≡ pages_in 2 s = omega (arith, e) in
    subst (λ (x : ℕ). Prints u v n r (lines_of span_line (spans_below (shown (read 2 s)) x))) z q
