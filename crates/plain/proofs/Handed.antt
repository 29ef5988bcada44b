-- Chunks handed out and back on a plain state: what it then shows is what the model's call leaves.
use mathlib.Core.Path.{◌≡◌, refl, sym, ap, ◌∙◌, fun_ext}
use mathlib.Core.Logic.{◌⊎◌, inl, inr, ◌≢◌}
use mathlib.Core.Bool.{Bool, true, false, cond, not}
use mathlib.Core.Option.{some}
use mathlib.Core.List.{List, [], ◌∷◌}
use Prim.Native.Nat.{ℕ, ◌+◌, ◌≤◌, ◌<◌}
use native.Mathlib.Omega.{arith}
use lib.Dec.{eqb}
use lib.ListN.{length, get_or}
use lib.Seq.{get_or-set_same, get_or-set_other}
use borrow.Author.Tests.{lt-ltb, eq-eqb, ne_eqb}
use Rattle.base.specs.Tests.{pick}
use Rattle.base.specs.Functions.{upd}
use Rattle.base.specs.Lists.{Mem, NoDup, keep}
use Rattle.base.specs.Links.{others}
use Rattle.base.proofs.Cases.{never, eq?}
use Rattle.base.proofs.Functions.{upd_same, upd_other}
use Rattle.base.proofs.Lists.{mem_cast}
use Rattle.model.specs.Classes.{chunks, lowest, has_clear, new_marks}
use Rattle.model.specs.State.{idle, slab, Run}
use Rattle.model.specs.Runs.{fit, carve}
use Rattle.model.specs.Calls.{asked, tallied, cut_page, mark_chunk}
use Rattle.model.specs.WellFormed.{WellFormed}
use Rattle.model.proofs.Classes.{lowest_clear_lem}
use Rattle.model.proofs.Table.{slab_ok}
use Rattle.model.proofs.Occupy.{were_idle, in_size}
use Rattle.plain.specs.declared.PageEntry.{PageEntry}
use Rattle.plain.specs.Table.{vacant, run_of, read_runs, first_fit, run_at}
use Rattle.plain.specs.Plain.{Plain, Shaped, free_entry, entry_at, mark_of, page_at, listed, list_of, no_counts, tally_of, read_plain}
use Rattle.plain.specs.Chunks.{new_bytes, with_byte, chunk_refused, page_cut, chunk_taken}
use Rattle.plain.proofs.Table.{fit-read, carve-read}
use Rattle.plain.proofs.Shown.{keep_same, small-runs}
use Rattle.plain.proofs.Ready.{unlisted-read, listed_first_lem, has_gap}
use Rattle.plain.proofs.Bytes.{chunks-most, marked_one, marked_other, new_marks_lem, new_other}
use Rattle.plain.proofs.Marked.{ClassPage, class-shown, page-alike, keep-others, keep-head, keep_swap, on_list_lem, on_own, listed-once, ask-counted, failure_counted}

-- ---- a chunk refused

pub chunk_refused_lem : (s : Plain) (b : List ℕ) → Shaped s b → (c : ℕ) → c ≤ 8 → read_plain (chunk_refused s c) b ≡ tallied (read_plain s b) c
unfolding read_plain tallied chunk_refused page_at entry_at list_of
chunk_refused_lem s b sh c h =
    λ x. record {
      size = 12;
      page = λ p. page_at s b p;
      runs = read_runs s.runs;
      lists = λ d. list_of s d;
      tally = failure_counted s.counts c (omega (arith, sh.counts)) x;
    }

-- ---- one chunk of a class page marked anew, the tables of pages and runs untouched

module _ (s : Plain) (b : List ℕ) (sh : Shaped s b) (p c : ℕ) (is : ClassPage s b p c) (i v : ℕ) (in_page : i < chunks c) where
  -- t has the same pages
  pub marked-page : (t : Plain) → t.pages ≡ s.pages → (j : ℕ) → page_at t (with_byte b p i v) j ≡ upd (page_at s b) p (slab c (upd (mark_of b p c) i (not (eqb v 0)))) j
  marked-page t e j = go (eq? j p)
    where
      same : (j : ℕ) → entry_at t j ≡ entry_at s j
      same j = unfold entry_at in rw e

      go : (j ≡ p) ⊎ (j ≢ p) → page_at t (with_byte b p i v) j ≡ upd (page_at s b) p (slab c (upd (mark_of b p c) i (not (eqb v 0)))) j
      go (inl d) =
          rw d
          (class-shown t (with_byte b p i v) p c is.in_pool (ap (λ (x : PageEntry). x.kind) (same p) ∙ is.kind) (ap (λ (x : PageEntry). x.class) (same p) ∙ is.class)
          ∙ rw (marked_one b sh.bytes p is.in_pool i v c in_page, upd_same (page_at s b) p (slab c (upd (mark_of b p c) i (not (eqb v 0))))))
      go (inr d) =
          page-alike s t b (with_byte b p i v) j (same j) (λ l q. marked_other b sh.bytes p is.in_pool i v (omega (arith, chunks-most c)) j q d)
          ∙ sym (upd_other (page_at s b) p (slab c (upd (mark_of b p c) i (not (eqb v 0)))) j d)

-- ---- a chunk handed out

module _ (s : Plain) (b : List ℕ) (sh : Shaped s b) (wf : WellFormed (read_plain s b)) (c p : ℕ) (rest : List ℕ) (first : list_of s c ≡ p ∷ rest) where
  abbrev m : ℕ → Bool
  m = mark_of b p c

  abbrev i : ℕ
  i = lowest c m

  on : Mem p (list_of s c)
  on = rw first (inl refl)

  page : ClassPage s b p c
  page = (on_list_lem s b wf c p on).0

  in_page : i < chunks c
  in_page = (lowest_clear_lem c m (on_list_lem s b wf c p on).1).0

  in_range : c ≤ 8
  unfolding read_plain
  in_range = (slab_ok wf.table (class-shown s b p c page.in_pool page.kind page.class)).in_range

  not_twice : ¬ Mem p rest
  unfolding read_plain
  not_twice = let d : NoDup (p ∷ rest) = rw first at (wf.class-lists.once c) in d.0

  elsewhere : (d : ℕ) → d ≢ c → ¬ Mem p (list_of s d)
  elsewhere d n q = n (sym (on_list_lem s b wf d p q).0.class ∙ page.class)

  lists-after : (clear : Bool) (d : ℕ) → list_of (chunk_taken s c p clear) d ≡ upd (list_of s) c (cond clear (p ∷ rest) rest) d
  lists-after true d = go (eq? d c)
    where
      same : list_of (chunk_taken s c p true) d ≡ list_of s d
      same = unfold list_of in unfold chunk_taken in unfold entry_at in unfold pick in refl

      go : (d ≡ c) ⊎ (d ≢ c) → list_of (chunk_taken s c p true) d ≡ upd (list_of s) c (p ∷ rest) d
      go (inl e) = same ∙ rw (e, upd_same (list_of s) c (p ∷ rest)) first
      go (inr n) = same ∙ sym (upd_other (list_of s) c (p ∷ rest) d n)
  lists-after false d = go (eq? d c)
    where
      same : list_of (chunk_taken s c p false) d ≡ keep (others p) (list_of s d)
      same =
          unfold list_of in unfold chunk_taken in unfold entry_at in unfold pick in
          rw (unlisted-read p s.ready) (keep_swap (λ j. eqb (entry_at s j).class d) (others p) (listed s.ready))

      go : (d ≡ c) ⊎ (d ≢ c) → list_of (chunk_taken s c p false) d ≡ upd (list_of s) c rest d
      go (inl e) = same ∙ rw (e, upd_same (list_of s) c rest, first) (keep-head p rest ∙ keep-others p rest not_twice)
      go (inr n) = same ∙ keep-others p (list_of s d) (elsewhere d n) ∙ sym (upd_other (list_of s) c rest d n)

  -- the lowest free chunk of the list's first page
  pub chunk_taken_lem : read_plain (chunk_taken s c p (has_clear c (upd m i true))) (with_byte b p i 1) ≡ (mark_chunk (read_plain s b) c p rest m).after
  unfolding read_plain mark_chunk
  chunk_taken_lem =
      λ x. record {
        size = 12;
        page = fun_ext (marked-page s b sh p c page i 1 in_page (chunk_taken s c p (has_clear c (upd m i true))) same_pages) x;
        runs = same_runs x;
        lists = fun_ext (lists-after (has_clear c (upd m i true))) x;
        tally = same_counts x;
      }
    where
      same_pages : (chunk_taken s c p (has_clear c (upd m i true))).pages ≡ s.pages
      same_pages = unfold chunk_taken in refl

      same_runs : read_runs (chunk_taken s c p (has_clear c (upd m i true))).runs ≡ read_runs s.runs
      same_runs = unfold chunk_taken in refl

      same_counts : (λ (d : ℕ). tally_of (get_or (chunk_taken s c p (has_clear c (upd m i true))).counts d no_counts)) ≡ upd (λ (d : ℕ). tally_of (get_or s.counts d no_counts)) c (asked (tally_of (get_or s.counts c no_counts)))
      same_counts = unfold chunk_taken in ask-counted s.counts c (omega (arith, sh.counts, in_range))

-- ---- a page cut into chunks: the first of the run at place i, which is free

module _ (s : Plain) (b : List ℕ) (sh : Shaped s b) (wf : WellFormed (read_plain s b)) (c : ℕ) (class : c ≤ 8) (none-ready : list_of s c ≡ [])
    (i : ℕ) (is : i ≡ first_fit 1 s.runs) (here : i < 12) where
  abbrev q : ℕ
  q = (get_or s.runs i vacant).first

  abbrev r : Run
  r = run_of (get_or s.runs i vacant)

  pub cut-found : fit 1 (read_runs s.runs) ≡ some r
  unfolding run_at pick
  cut-found = fit-read 1 s.runs (omega arith) ∙ rw (← is, lt-ltb i (length s.runs) (omega (arith, sh.runs)))

  was_free : page_at s b q ≡ idle
  unfolding read_plain run_of
  was_free = were_idle wf.table wf.free_runs 1 (omega arith) r cut-found q (omega arith) (omega arith)

  pub q_in : q < 12
  unfolding read_plain run_of
  q_in = let l : q + 1 ≤ 12 = in_size wf.table wf.free_runs 1 (omega arith) r cut-found in omega arith

  abbrev t : Plain
  t = page_cut s c i

  cut-entry : entry_at t q ≡ record { kind = 1; class = c; run = 0 }
  unfolding entry_at page_cut
  cut-entry = get_or-set_same s.pages q (record { kind = 1; class = c; run = 0 }) free_entry (omega (arith, sh.pages, q_in))

  cut_other : (j : ℕ) → j ≢ q → entry_at t j ≡ entry_at s j
  unfolding entry_at page_cut
  cut_other j n = get_or-set_other s.pages q j (record { kind = 1; class = c; run = 0 }) free_entry n

  cut_page_lem : (j : ℕ) → page_at t (new_bytes b q c) j ≡ upd (page_at s b) q (slab c (new_marks c)) j
  cut_page_lem j = go (eq? j q)
    where
      go : (j ≡ q) ⊎ (j ≢ q) → page_at t (new_bytes b q c) j ≡ upd (page_at s b) q (slab c (new_marks c)) j
      go (inl d) =
          rw d
          (class-shown t (new_bytes b q c) q c q_in (ap (λ (x : PageEntry). x.kind) cut-entry) (ap (λ (x : PageEntry). x.class) cut-entry)
          ∙ rw (new_marks_lem b sh.bytes q q_in c class, upd_same (page_at s b) q (slab c (new_marks c))))
      go (inr d) =
          page-alike s t b (new_bytes b q c) j (cut_other j d) (λ l e. new_other b sh.bytes q q_in c class j e l d)
          ∙ sym (upd_other (page_at s b) q (slab c (new_marks c)) j d)

  not_listed : ¬ Mem q (listed s.ready)
  not_listed h =
      let on = (on_list_lem s b wf (entry_at s q).class q (on_own s b wf q h)).0 in
      never (cc (was_free, class-shown s b q (entry_at s q).class q_in on.kind refl))

  cut-listed : listed t.ready ≡ q ∷ listed s.ready
  unfolding page_cut
  cut-listed = listed_first_lem q s.ready q_in (has_gap s.ready sh.ready (listed-once s b wf) q q_in not_listed)

  cut-lists : (d : ℕ) → list_of t d ≡ upd (list_of s) c (q ∷ []) d
  cut-lists d = start ∙ go (eq? d c)
    where
      start : list_of t d ≡ cond (eqb c d) (q ∷ list_of s d) (list_of s d)
      start =
          unfold list_of in
          rw (
            cut-listed,
            ap (λ (x : PageEntry). x.class) cut-entry,
            keep_same (λ j. eqb (entry_at t j).class d) (λ j. eqb (entry_at s j).class d) (listed s.ready)
                (λ j h. ap (λ (x : PageEntry). eqb x.class d) (cut_other j (λ e. not_listed (mem_cast (listed s.ready) (sym e) h)))),
          )

      go : (d ≡ c) ⊎ (d ≢ c) → cond (eqb c d) (q ∷ list_of s d) (list_of s d) ≡ upd (list_of s) c (q ∷ []) d
      go (inl e) = rw (e, eq-eqb c c refl, none-ready, upd_same (list_of s) c (q ∷ []))
      go (inr n) = rw (ne_eqb c d (λ e. n (sym e)), upd_other (list_of s) c (q ∷ []) d n)

  pub page_cut_lem : read_plain (page_cut s c i) (new_bytes b q c) ≡ (cut_page (read_plain s b) c (fit 1 (read_runs s.runs))).after
  unfolding read_plain cut_page run_of
  page_cut_lem =
      rw cut-found
      (λ x. record {
        size = 12;
        page = fun_ext cut_page_lem x;
        runs = cut-runs x;
        lists = fun_ext cut-lists x;
        tally = cut-counts x;
      })
    where
      cut-runs : read_runs (page_cut s c i).runs ≡ carve 1 (read_runs s.runs)
      cut-runs = unfold page_cut in rw is (carve-read 1 s.runs (omega arith) (small-runs s b wf))

      cut-counts : (λ (d : ℕ). tally_of (get_or (page_cut s c i).counts d no_counts)) ≡ upd (λ (d : ℕ). tally_of (get_or s.counts d no_counts)) c (asked (tally_of (get_or s.counts c no_counts)))
      cut-counts = unfold page_cut in ask-counted s.counts c (omega (arith, sh.counts))
