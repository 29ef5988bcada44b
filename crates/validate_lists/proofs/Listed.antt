-- A walk with the counter's number of pages to come is the rule's.
use mathlib.Core.Path.{◌≡◌, ◌∙◌}
use mathlib.Core.Bool.{Bool}
use mathlib.Core.List.{List}
use Prim.Native.Nat.{ℕ, ◌+◌, ◌-◌, ◌/◌, ◌%◌, ◌<◌}
use lib.ListN.{get_or}
use native.Mathlib.Omega.{arith}
use borrow.Author.Tests.{ne_eqb}
use Rattle.base.specs.Tests.{pick}
use Rattle.records.specs.Layout.{no_page}
use Rattle.records.specs.declared.Header.{Header}
use Rattle.records.specs.declared.ClassRecord.{ClassRecord}
use Rattle.records.specs.Header.{header_at}
use Rattle.records.specs.Class.{class_at}
use Rattle.rules.specs.Fields.{next, prev}
use Rattle.rules.specs.Rules.{linked, rule3, class_list}
use Rattle.rules.specs.Bytes.{image_of, fields_of}
use Rattle.validate_walk.specs.Mirror.{belongs}
use Rattle.validate_totals.specs.Mirror.{Scanned}
use Rattle.validate_totals.proofs.Totals.{heads_is, open_is}

module _ (w : ℕ) (s : List ℕ) (n : ℕ) (t : List ℕ) (K : Scanned w s n t) (k : ℕ) (r : Bool) where
  pub runs-listed : k ≡ get_or t 9 0 / 4294967296 % 65536 → (h : Header) → h ≡ header_at s
      → r ≡ linked (belongs (fields_of w s) n 0) (next (fields_of w s)) (prev (fields_of w s)) k no_page h.first_run.0 → r ≡ rule3 (fields_of w s) n
  unfolding rule3 belongs pick fields_of image_of
  runs-listed e h d q = q ∙ rw (e, d, heads_is (fields_of w s) n t K.most K.counted)

  pub class-listed : (c : ℕ) → c < 9 → k ≡ get_or t c 0 / 281474976710656 → (x : ClassRecord) → x ≡ class_at w s c
      → r ≡ linked (belongs (fields_of w s) n (1 + c)) (next (fields_of w s)) (prev (fields_of w s)) k no_page x.first.0 → r ≡ class_list (fields_of w s) n c
  unfolding class_list belongs pick fields_of image_of
  class-listed c l e x d q =
      let z : 1 + c - 1 ≡ c = omega arith in
      q ∙ rw (e, d, ne_eqb (1 + c) 0 (λ y. omega arith), z, open_is (fields_of w s) n t K.most K.counted c l)
