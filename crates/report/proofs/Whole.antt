-- The classes one by one, and the parts of a printout put together.
use mathlib.Core.Path.{◌≡◌, sym, ◌∙◌, subst}
use mathlib.Core.Logic.{◌≢◌}
use mathlib.Core.List.{List, [], ◌++◌}
use Prim.Native.Nat.{ℕ, ◌+◌, ◌≤◌, ◌<◌}
use native.Mathlib.Numerals.{add-one}
use native.Mathlib.Omega.{arith}
use lib.ListN.{length}
use borrow.Author.Tests.{lt-ltb, le-ltb, eq-eqb, ne_eqb}
use Rattle.base.specs.Tests.{pick}
use Rattle.words.specs.Word.{Bytes}
use Rattle.answers.specs.declared.Refusal.TheVariants.{TooLong}
use Rattle.model.specs.State.{State}
use Rattle.model.specs.Live.{blocks}
use Rattle.rules.specs.Read.{read_fields}
use Rattle.rules.specs.Bytes.{pages_in, broken_rule, read}
use Rattle.printing.specs.Text.{line, lines_of, written, Prints}
use Rattle.printing.proofs.Writing.{prints_none, prints_then}
use Rattle.script_replies.specs.Replies.{pool_word, refusal_line}
use Rattle.report_lines.specs.Lines.{span_line, block_line}
use Rattle.report.specs.Report.{too_long, class_text, classes_below, spans, listing, report_of, judged_text, printout}
use Rattle.report.specs.Mirror.{Sound}
use Rattle.report.proofs.Room.{fits}

-- ---- class by class

pub classes-none : (m : State) (u : List ℕ) (n : ℕ) → Prints u u n n (classes_below m 0)
unfolding classes_below
classes-none m u n = prints_none u n

pub classes_more : (m : State) (c : ℕ) (s t u : List ℕ) (n a r : ℕ) → Prints s t n a (classes_below m c) → Prints t u a r (class_text m c) →
    Prints s u n r (classes_below m (c + 1))
unfolding classes_below
classes_more m c s t u n a r x y = rw (add-one c) (prints_then s t u n a r _ _ x y)

pub classes-all : (m : State) (c : ℕ) (u v : List ℕ) (n r : ℕ) → c ≤ 9 → 9 ≤ c → Prints u v n r (classes_below m c) → Prints u v n r (classes_below m 9)
classes-all m c u v n r h l q = let z : c ≡ 9 = omega arith in rw (← z) q

-- ---- the parts

pub listing_does : (m : State) (s t u v : List ℕ) (n a b r : ℕ) →
    Prints s t n a (classes_below m 9) → Prints t u a b (lines_of span_line (spans m)) → Prints u v b r (lines_of block_line (blocks m)) →
    Prints s v n r (listing m)
unfolding listing
listing_does m s t u v n a b r x y z = prints_then s t v n a r _ _ x (prints_then t u v a b r _ _ y z)

pub sound-image : (image : List ℕ) (n : ℕ) → Bytes image → broken_rule 2 image ≡ 0 → length image < too_long → n ≡ pages_in 2 image → Sound image n
sound-image image n b e h d = record { bytes = b; rules = e; pages = d; few = omega (arith, d, h) }

pub report_does : (image : List ℕ) (pages : ℕ) (s t u : List ℕ) (a r : ℕ) → pages ≡ pages_in 2 image →
    (a ≡ 0 + length (line pool_word pages)) × (t ≡ written s 0 (line pool_word pages)) × (a ≤ 0 + 5 + 11) → Prints t u a r (listing (read 2 image)) →
    Prints s u 0 r (report_of (read 2 image))
unfolding report_of read read_fields
report_does image pages s t u a r e (x, y, _) z =
    subst (λ (k : ℕ). Prints s u 0 r (line pool_word k ++ listing (read 2 image))) e (prints_then s t u 0 a r _ _ (x, y) z)

pub judged_none : (image : List ℕ) (rule : ℕ) → rule ≡ broken_rule 2 image → rule ≡ 0 → broken_rule 2 image ≡ 0
judged_none image rule e d = sym e ∙ d

module _ (image : List ℕ) (rule : ℕ) (u v : List ℕ) (r : ℕ) where
  pub judged_sound : rule ≡ 0 → Prints u v 0 r (report_of (read 2 image)) → Prints u v 0 r (judged_text image rule)
  unfolding judged_text pick
  judged_sound e p = rw (eq-eqb rule 0 e) p

  pub judged_broken : rule ≢ 0 → (r ≡ 0 + length (line [] rule)) × (v ≡ written u 0 (line [] rule)) × (r ≤ 0 + 0 + 11) → Prints u v 0 r (judged_text image rule)
  unfolding judged_text pick
  judged_broken e (a, b, _) = rw (ne_eqb rule 0 e) (a, b)

-- ---- the whole

module _ (image u v : List ℕ) (r : ℕ) where
  abbrev Whole : Type 0
  Whole = (r ≡ length (printout image)) × (v ≡ written u 0 (printout image)) × (r ≤ 262144)

  whole : Prints u v 0 r (printout image) → Whole
  whole (a, b) = (omega (arith, a), b, omega (arith, a, fits image))

  pub whole-short : length image < 53608 → (rule : ℕ) → rule ≡ broken_rule 2 image → Prints u v 0 r (judged_text image rule) → Whole
  unfolding printout pick
  whole-short h rule e p = whole (rw (lt-ltb (length image) 53608 h, ← e) p)

  pub whole_long : 53608 ≤ length image → Prints u v 0 r (refusal_line TooLong) → Whole
  unfolding printout pick
  whole_long h p = whole (rw (le-ltb (length image) 53608 h) p)
