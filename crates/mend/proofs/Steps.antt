-- The steps of the loops, what the counters tell, and what the tests let pass.
use mathlib.Core.Path.{◌≡◌, refl, sym, ap, ◌∙◌, subst}
use mathlib.Core.Logic.{◌≢◌, ⊎_elim}
use mathlib.Core.Bool.{Bool, true, false}
use mathlib.Core.List.{List}
use Prim.Native.Nat.{ℕ, max, ◌+◌, ◌*◌, ◌%◌, ◌≤◌, ◌<◌}
use native.Mathlib.Numerals.{add-one}
use native.Mathlib.Omega.{arith}
use native.Mathlib.Nat.{mul-le-mul_left}
use lib.ListN.{length, get_or}
use lib.Seq.{ext_get_or}
use borrow.Author.Rules.{rules}
use borrow.Author.Tests.{eq-eqb, ne_eqb}
use Rattle.base.specs.Tests.{pick}
use Rattle.base.proofs.Tests.{pick_le, pick_gt}
use Rattle.base.proofs.Cases.{lt?}
use Rattle.words.specs.Word.{Bytes, set_word}
use Rattle.records.specs.Layout.{counts_place}
use Rattle.records.specs.declared.ClassRecord.{ClassRecord}
use Rattle.records.specs.declared.Links.{Links}
use Rattle.records.specs.Class.{pack_counts, peak_at, with_peak}
use Rattle.records.specs.Page.{with_links}
use Rattle.answers.specs.Outcome.{granted, refused}
use Rattle.answers.specs.declared.Refusal.TheVariants.{WrongLength, BeyondMending}
use Rattle.model.specs.View.{used_of}
use Rattle.model.specs.Classes.{counted}
use Rattle.model.specs.State.{is_idle}
use Rattle.classes.proofs.Numbers.{chunks_512}
use Rattle.map_count.proofs.Counts.{count_le}
use Rattle.copying.specs.Lay.{lay}
use Rattle.copying.proofs.Laws.{length-lay, lay-inside}
use Rattle.image.specs.Image.{write_at}
use Rattle.image.proofs.Peaks.{no-peaks, peaks_written_lem}
use Rattle.rules.specs.Fields.{Fields, page_at}
use Rattle.rules.specs.Read.{read_fields}
use Rattle.rules.specs.Rules.{free_in}
use Rattle.rules.specs.Bytes.{pages_in, fields_of}
use Rattle.drawing.specs.Draw.{larger}
use Rattle.validate_pages.specs.Mirror.{Counted}
use Rattle.validate_totals.specs.Mirror.{Scanned}
use Rattle.validate_totals.proofs.Totals.{used-is, idle-is}
use Rattle.mending.specs.Mending.{shaped}
use Rattle.mending.specs.Checked.{mend_outcome, mended}
use Rattle.mending.specs.Mirror.{class_anew, page_anew, counts_written, links_written, peaks_written, written}
use Rattle.mending.proofs.Painted.{copy_written}
use Rattle.mend.specs.Mirror.{counts_below, links_below, peaks_below}

max-larger : (a b : ℕ) → max a b ≡ larger a b
max-larger a b = ⊎_elim (λ (l : b < a). pick_gt b a a b l (omega arith)) (λ (l : a ≤ b). pick_le b a a b l (omega arith)) (lt? b a)

-- ---- what the counters tell

module _ (v : Fields) (n : ℕ) (t : List ℕ) (most : n ≤ 4096) (K : Counted v n n t) where
  pub free-few : (r : ℕ) → r ≡ get_or t 9 0 % 4294967296 → r < 65536
  unfolding free_in
  free-few r e = omega (arith, idle-is v n t most K, count_le (λ p. is_idle (page_at v n p)) n)

pub total-small : (a b c : ℕ) → a < 65536 → b ≡ counted c → a * b < 4294967296
unfolding counted
total-small a b c h e =
    let k : b ≤ 512 = omega (arith, chunks_512 c) in
    let l : a * b ≤ a * 512 = mul-le-mul_left a k in
    omega arith

-- ---- loops

module _ (w : ℕ) (s : List ℕ) (n : ℕ) (x : List ℕ) where
  pub counts-none : x ≡ counts_below w s n x 0
  unfolding counts_below write_at
  counts-none = refl

  pub counts_one : (u v : List ℕ) (c k y : ℕ) (r : ClassRecord) → u ≡ counts_below w s n x c → r ≡ class_anew (fields_of w s) n c → k ≡ counts_place w c →
      y ≡ pack_counts r → v ≡ set_word u k y → v ≡ counts_below w s n x (c + 1)
  unfolding counts_below write_at
  counts_one u v c k y r e f g h z = rw (add-one c) (z ∙ rw (e, g, h, f))

  pub counts_all : (u : List ℕ) (c : ℕ) → u ≡ counts_below w s n x c → c ≤ 9 → 9 ≤ c → u ≡ counts_written w s n x
  unfolding counts_below counts_written
  counts_all u c e a b = let d : c ≡ 9 = omega arith in rw d at e

  pub links-none : x ≡ links_below w s n x 0
  unfolding links_below write_at
  links-none = refl

  pub links_one : (u v : List ℕ) (p : ℕ) (l : Links) → u ≡ links_below w s n x p → l ≡ page_anew (fields_of w s) n p → v ≡ with_links w u p l → v ≡ links_below w s n x (p + 1)
  unfolding links_below write_at with_links
  links_one u v p l e f z = rw (add-one p) (z ∙ rw (e, f))

  pub links-all : (u : List ℕ) (p : ℕ) → u ≡ links_below w s n x p → p ≤ n → n ≤ p → u ≡ links_written w s n x
  unfolding links_below links_written
  links-all u p e a b = let d : p ≡ n = omega arith in rw d at e

  pub peaks-none : x ≡ peaks_below w s n x 0
  unfolding peaks_below write_at
  peaks-none = refl

  pub peaks_one : (t : List ℕ) → Scanned w s n t → (u v : List ℕ) (c a b y : ℕ) → u ≡ peaks_below w s n x c → c < 9 → a ≡ peak_at w s c → b ≡ get_or t c 0 % 4294967296 →
      y ≡ max a b → v ≡ with_peak w u c y → v ≡ peaks_below w s n x (c + 1)
  unfolding peaks_below write_at with_peak
  peaks_one t S u v c a b y e l f g h z =
      let d : b ≡ used_of (read_fields (fields_of w s) n) c = g ∙ sym (used-is (fields_of w s) n t S.most S.counted c l) in
      rw (add-one c) (z ∙ rw (e, h, max-larger a b, f, d))

  pub peaks-all : (u : List ℕ) (c : ℕ) → u ≡ peaks_below w s n x c → c ≤ 9 → 9 ≤ c → u ≡ peaks_below w s n x 9
  peaks-all u c e a b = let d : c ≡ 9 = omega arith in rw d at e

  -- edition 1 has no peaks
  pub peaks_deep : (u : List ℕ) → 2 < w → u ≡ peaks_below w s n x 9 → u ≡ peaks_written w s n x
  unfolding peaks_below peaks_written
  peaks_deep u h e = e ∙ sym (peaks_written_lem w _ x h)

  pub peaks_flat : w ≤ 2 → x ≡ peaks_written w s n x
  unfolding peaks_written
  peaks_flat h = sym (no-peaks w _ x h)

pub ruleset counting = (counts-none, counts_one, counts_all, rules)

pub ruleset linking = (links-none, links_one, links-all, rules)

pub ruleset peaking = (peaks-none, peaks_one, peaks-all, rules)

-- ---- the whole slice copied

pub all_laid : (s t v : List ℕ) → length t ≡ length s → v ≡ lay 0 0 s (length s) t → v ≡ s
all_laid s t v e z =
    z
    ∙ ext_get_or 0 _ _ (length-lay 0 0 s (length s) t ∙ e)
    (λ i h.
    let z : 0 + i ≡ i = omega arith in
    subst (λ (j : ℕ). get_or (lay 0 0 s (length s) t) j 0 ≡ get_or s j 0) z
    (lay-inside 0 0 s (length s) t i (omega (arith, length-lay 0 0 s (length s) t)) (omega arith)))

-- ---- the answer

module _ (w : ℕ) (s t : List ℕ) where
  pub other_length : length s ≢ length t → (refused WrongLength ≡ mend_outcome w s t) × (t ≡ mended w s t)
  unfolding mend_outcome mended pick
  other_length d = (rw (ne_eqb _ _ d), rw (ne_eqb _ _ d))

  module _ (l : length s ≡ length t) (u : Bool) (e : u ≡ shaped w s) where
    pub beyond : u ≡ false → (refused BeyondMending ≡ mend_outcome w s t) × (t ≡ mended w s t)
    unfolding mend_outcome mended pick
    beyond f = let z : shaped w s ≡ false = sym e ∙ f in (rw (eq-eqb _ _ l, z), rw (eq-eqb _ _ l, z))

    pub all-written : 2 ≤ w → w ≤ 255 → Bytes s → u ≡ true → (n : ℕ) → n ≡ pages_in w s → (v : List ℕ) → v ≡ written w s n →
        (granted n ≡ mend_outcome w s t) × (v ≡ mended w s t)
    unfolding mend_outcome mended pick
    all-written wide narrow B f n p v z =
        let y : shaped w s ≡ true = sym e ∙ f in
        (rw (eq-eqb _ _ l, y, p), rw (eq-eqb _ _ l, y) (z ∙ ap (written w s) p ∙ sym (copy_written w wide narrow s B y)))
