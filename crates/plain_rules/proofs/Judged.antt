-- The tests of rules 2 to 6 hold exactly when a plain state is sound.
use mathlib.Core.Path.{◌≡◌, refl, sym, ap, ◌∙◌}
use mathlib.Core.Bool.{Bool, true, false}
use mathlib.Core.List.{List}
use Prim.Native.Nat.{ℕ, ◌≤◌, ◌<◌}
use native.Mathlib.Omega.{arith}
use lib.Dec.{eqb}
use lib.ListN.{get_or}
use borrow.Author.Tests.{eq-eqb, eqb-true}
use Rattle.base.specs.Tests.{all_below}
use Rattle.base.specs.Lists.{Mem}
use Rattle.base.proofs.Tests.{both_true}
use Rattle.base.proofs.AllBelow.{pick-both, each_of, all_of_lem, ◌&◌, all-at, at_all}
use Rattle.model.specs.State.{is_idle}
use Rattle.model.specs.View.{used_of, shown}
use Rattle.model.specs.WellFormed.{TallyOk, WellFormed}
use Rattle.plain.specs.declared.Extent.{Extent}
use Rattle.plain.specs.Table.{vacant}
use Rattle.plain.specs.Plain.{Plain, Shaped, free_entry, entry_at, page_at, no_counts, tally_of, read_plain}
use Rattle.plain.proofs.Loops.{get_d_past}
use Rattle.plain.proofs.Shown.{page-past}
use Rattle.plain_rules.specs.Counts.{used_in, total_in, free_in}
use Rattle.plain_rules.specs.Rules.{kind_ok, extent_ok, runs_ok, list_ok, counts_ok, page_ok, is_sound}
use Rattle.plain_rules.specs.Sound.{Tallied, Sound, Judged}
use Rattle.plain_rules.proofs.Counted.{page-free, free-is, used-is, total-is}
use Rattle.plain_rules.proofs.Many.{mem-at, at_mem}
use Rattle.plain_rules.proofs.Paged.{table_there, kinds_there, table-back}
use Rattle.plain_rules.proofs.Covered.{runs_there, extents_back, runs-back}
use Rattle.plain_rules.proofs.Listed.{lists_there, lists_back}

module _ (s : Plain) (b : List ℕ) (sh : Shaped s b) where
  abbrev g : ℕ → Bool
  g p = is_idle (page_at s b p)

  abbrev page_at_ok : ℕ → Bool
  page_at_ok p = page_ok s.pages s.runs s.ready b p

  abbrev counts_at_ok : ℕ → Bool
  counts_at_ok c = counts_ok s.pages b c (get_or s.counts c no_counts)

  past : (p : ℕ) → 12 ≤ p → g p ≡ false
  past p l = rw (page-past s b p l)

  tally_ok : Tallied s → (c : ℕ) → TallyOk c (tally_of (get_or s.counts c no_counts))
  tally_ok T c = record {
    reqs-fit = unfold tally_of in T.reqs c;
    fails-fit = unfold tally_of in T.fails c;
    none-past = λ h. ap tally_of (get_d_past s.counts c no_counts (omega (arith, sh.counts))) ∙ (unfold tally_of no_counts in refl);
  }

  there : Tallied s → is_sound s b ≡ true → Sound s b
  unfolding is_sound
  there T h =
      let x = each_of _ h in
      let pages = x.0 in
      let extents = x.1.0 in
      let free = x.1.1.0 in
      let counts = x.1.1.1.0 in
      let page : (p : ℕ) → p < 12 → page_at_ok p ≡ true = all-at page_at_ok 12 pages in
      record {
        kinds = kinds_there s b sh (kind page);
        well = state T page (extent extents);
        free = eqb-true s.free (free_in s.pages) free ∙ free-is s b;
        used = λ c l. (counted c (all-at counts_at_ok 9 counts c l)).0;
        total = λ c l. (counted c (all-at counts_at_ok 9 counts c l)).1;
      }
    where
      parts : (p : ℕ) → page_at_ok p ≡ true
          → (kind_ok s.pages b p (get_or s.pages p free_entry) ≡ true) × ((runs_ok s.pages s.runs p ≡ true) × ((list_ok b s.ready p (get_or s.pages p free_entry) ≡ true) × Unit {0}))
      parts p e = unfold page_ok in each_of _ e

      kind : ((p : ℕ) → p < 12 → page_at_ok p ≡ true) → (p : ℕ) → p < 12 → kind_ok s.pages b p (entry_at s p) ≡ true
      kind page p l = unfold entry_at in (parts p (page p l)).0

      list : ((p : ℕ) → p < 12 → page_at_ok p ≡ true) → (p : ℕ) → p < 12 → list_ok b s.ready p (entry_at s p) ≡ true
      list page p l = unfold entry_at in (parts p (page p l)).1.1.0

      extent : all_below (λ i. extent_ok s.pages (get_or s.runs i vacant)) 12 ≡ true → (e : Extent) → Mem e s.runs → extent_ok s.pages e ≡ true
      extent a e m =
          let (i, l, d) = at_mem e s.runs vacant m in
          ap (extent_ok s.pages) (sym d) ∙ all-at (λ j. extent_ok s.pages (get_or s.runs j vacant)) 12 a i (omega (arith, sh.runs))

      state : Tallied s → ((p : ℕ) → p < 12 → page_at_ok p ≡ true) → ((e : Extent) → Mem e s.runs → extent_ok s.pages e ≡ true) → WellFormed (read_plain s b)
      state T page extents = unfold read_plain in record {
        some-page = omega arith;
        table = table_there s b sh (kind page);
        free_runs = runs_there s.pages g (page-free s b) past s.runs extents (λ p l. (parts p (page p l)).1.0);
        class-lists = lists_there s b (list page);
        tallies = tally_ok T;
      }

      counted : (c : ℕ) → counts_at_ok c ≡ true → ((get_or s.counts c no_counts).used ≡ used_of (read_plain s b) c) × ((get_or s.counts c no_counts).total ≡ (shown (read_plain s b)).total c)
      counted c e = unfold counts_ok in
          let x = both_true (eqb (get_or s.counts c no_counts).used (used_in s.pages b c)) (eqb (get_or s.counts c no_counts).total (total_in s.pages c)) e in
          (eqb-true (get_or s.counts c no_counts).used (used_in s.pages b c) x.0 ∙ used-is s b c, eqb-true (get_or s.counts c no_counts).total (total_in s.pages c) x.1 ∙ total-is s b c)

  pub sound_passes : Sound s b → is_sound s b ≡ true
  unfolding is_sound
  sound_passes S = all_of_lem _ (at_all page_at_ok 12 page & at_all _ 12 extent & free & at_all counts_at_ok 9 counts & tt)
    where
      wf : WellFormed (read_plain s b)
      wf = S.well

      kind : (p : ℕ) → p < 12 → kind_ok s.pages b p (entry_at s p) ≡ true
      kind p l = unfold read_plain in table-back s b sh wf.table S.kinds p l

      page : (p : ℕ) → p < 12 → page_at_ok p ≡ true
      page p l =
          unfold page_ok entry_at read_plain in
          all_of_lem _ (kind p l & runs-back s.pages g (page-free s b) past s.runs wf.free_runs p & lists_back s b wf p l & tt)

      extent : (i : ℕ) → i < 12 → extent_ok s.pages (get_or s.runs i vacant) ≡ true
      extent i l = unfold read_plain in extents_back s.pages g (page-free s b) past s.runs wf.free_runs (get_or s.runs i vacant) (mem-at s.runs i vacant (omega (arith, sh.runs)))

      free : eqb s.free (free_in s.pages) ≡ true
      free = eq-eqb s.free (free_in s.pages) (S.free ∙ sym (free-is s b))

      counts : (c : ℕ) → c < 9 → counts_at_ok c ≡ true
      counts c l =
          unfold counts_ok in
          pick-both _ _ (eq-eqb (get_or s.counts c no_counts).used (used_in s.pages b c) (S.used c l ∙ sym (used-is s b c)))
          (eq-eqb (get_or s.counts c no_counts).total (total_in s.pages c) (S.total c l ∙ sym (total-is s b c)))

pub judged : Judged
judged s b sh T = (there s b sh T, sound_passes s b sh)
