-- Chunks that come back on a plain state: what it then shows is what the model leaves.
use mathlib.Core.Path.{◌≡◌, refl, sym, ap, ◌∙◌, fun_ext}
use mathlib.Core.Logic.{◌⊎◌, inl, inr, ◌≢◌}
use mathlib.Core.Bool.{Bool, true, false, cond}
use mathlib.Core.List.{List, ◌∷◌}
use Prim.Native.Nat.{ℕ, ◌+◌, ◌≤◌, ◌<◌}
use native.Mathlib.Omega.{arith}
use lib.Dec.{eqb}
use lib.ListN.{get_or}
use borrow.Author.Tests.{eq-eqb, ne_eqb}
use Rattle.base.specs.Tests.{pick}
use Rattle.base.specs.Functions.{upd, fill}
use Rattle.base.specs.Lists.{Mem, keep}
use Rattle.base.specs.Links.{others}
use Rattle.base.proofs.Cases.{never, clash, lt?, eq?, Out}
use Rattle.base.proofs.Functions.{upd_same, upd_other}
use Rattle.base.proofs.Lists.{keep-mem}
use Rattle.model.specs.Classes.{chunks, has_clear}
use Rattle.model.specs.State.{idle, slab, Tally}
use Rattle.model.specs.Runs.{join_runs}
use Rattle.model.specs.Calls.{relisted, keep_page, drop_page, release}
use Rattle.model.specs.WellFormed.{WellFormed}
use Rattle.plain.specs.declared.PageEntry.{PageEntry}
use Rattle.plain.specs.Table.{read_runs}
use Rattle.plain.specs.Plain.{Plain, Shaped, free_entry, entry_at, mark_of, page_of, page_at, listed, list_of, no_counts, tally_of, read_plain}
use Rattle.plain.specs.Pages.{pages_freed}
use Rattle.plain.specs.Chunks.{with_byte, listed_first, chunk_back, page_dropped}
use Rattle.plain.proofs.Shown.{keep_same, page_in, page_same}
use Rattle.plain.proofs.Pages.{freed-entry, freed_same, freed-page, freed-runs}
use Rattle.plain.proofs.Handed.{marked-page}
use Rattle.plain.proofs.Ready.{unlisted-read, listed_first_lem, has_gap}
use Rattle.plain.proofs.Bytes.{chunks-most, marked_other}
use Rattle.plain.proofs.Marked.{ClassPage, class-shown, page-alike, keep-others, keep-head, keep_swap, on_list_lem, on_own, listed-once}

-- the lists after p became the head
list_cons : (s t : Plain) (p d : ℕ) → t.pages ≡ s.pages → listed t.ready ≡ p ∷ listed s.ready → list_of t d ≡ cond (eqb (entry_at s p).class d) (p ∷ list_of s d) (list_of s d)
unfolding list_of
list_cons s t p d e f =
    rw f (keep_same (λ j. eqb (entry_at t j).class d) (λ j. eqb (entry_at s j).class d) (p ∷ listed s.ready) (λ j h. ap (λ (x : PageEntry). eqb x.class d) (same j)))
  where
    same : (j : ℕ) → entry_at t j ≡ entry_at s j
    same j = unfold entry_at in rw e

module _ (s : Plain) (b : List ℕ) (sh : Shaped s b) (wf : WellFormed (read_plain s b)) (p c : ℕ) (page : ClassPage s b p c) where
  abbrev m : ℕ → Bool
  m = mark_of b p c

  shown : page_at s b p ≡ slab c m
  shown = class-shown s b p c page.in_pool page.kind page.class

  elsewhere : (d : ℕ) → d ≢ c → ¬ Mem p (list_of s d)
  elsewhere d n q = n (sym (on_list_lem s b wf d p q).0.class ∙ page.class)

  -- a full page is not listed
  full-off : has_clear c m ≡ false → ¬ Mem p (listed s.ready)
  full-off f h =
      let on = (on_list_lem s b wf (entry_at s p).class p (on_own s b wf p h)).1 in
      clash (rw page.class at on) f

  head-listed : has_clear c m ≡ false → listed (listed_first p s.ready) ≡ p ∷ listed s.ready
  head-listed f = listed_first_lem p s.ready page.in_pool (has_gap s.ready sh.ready (listed-once s b wf) p page.in_pool (full-off f))

  -- ---- the page stays a class page

  back-lists : (clear : Bool) → has_clear c m ≡ clear → (d : ℕ) → list_of (chunk_back s p clear) d ≡ upd (list_of s) c (relisted clear p (list_of s c)) d
  back-lists true f d = go (eq? d c)
    where
      same : list_of (chunk_back s p true) d ≡ list_of s d
      same = unfold list_of in unfold chunk_back in unfold entry_at in unfold pick in refl

      go : (d ≡ c) ⊎ (d ≢ c) → list_of (chunk_back s p true) d ≡ upd (list_of s) c (relisted true p (list_of s c)) d
      go (inl e) = same ∙ rw (e, upd_same (list_of s) c (relisted true p (list_of s c))) (unfold relisted in refl)
      go (inr n) = same ∙ sym (upd_other (list_of s) c (relisted true p (list_of s c)) d n)
  back-lists false f d = start ∙ go (eq? d c)
    where
      start : list_of (chunk_back s p false) d ≡ cond (eqb c d) (p ∷ list_of s d) (list_of s d)
      start = list_cons s (chunk_back s p false) p d (unfold chunk_back in refl) (unfold chunk_back in unfold pick in head-listed f) ∙ rw page.class

      go : (d ≡ c) ⊎ (d ≢ c) → cond (eqb c d) (p ∷ list_of s d) (list_of s d) ≡ upd (list_of s) c (relisted false p (list_of s c)) d
      go (inl e) = rw (e, eq-eqb c c refl, upd_same (list_of s) c (relisted false p (list_of s c))) (unfold relisted in refl)
      go (inr n) = rw (ne_eqb c d (λ e. n (sym e)), upd_other (list_of s) c (relisted false p (list_of s c)) d n)

  pub chunk_back_lem : (i : ℕ) → i < chunks c → read_plain (chunk_back s p (has_clear c m)) (with_byte b p i 0) ≡ keep_page (read_plain s b) p c m i
  unfolding read_plain keep_page
  chunk_back_lem i h =
      λ x. record {
        size = 12;
        page = fun_ext (marked-page s b sh p c page i 0 h (chunk_back s p (has_clear c m)) same_pages) x;
        runs = same_runs x;
        lists = fun_ext (back-lists (has_clear c m) refl) x;
        tally = same_counts x;
      }
    where
      same_pages : (chunk_back s p (has_clear c m)).pages ≡ s.pages
      same_pages = unfold chunk_back in refl

      same_runs : read_runs (chunk_back s p (has_clear c m)).runs ≡ read_runs s.runs
      same_runs = unfold chunk_back in refl

      same_counts : ◌≡◌ {A = ℕ → Tally} (λ (d : ℕ). tally_of (get_or (chunk_back s p (has_clear c m)).counts d no_counts)) (λ (d : ℕ). tally_of (get_or s.counts d no_counts))
      same_counts = unfold chunk_back in refl

  -- ---- the page is dropped

  not-idle : (j : ℕ) → p ≤ j → j < p + 1 → page_at s b j ≢ idle
  not-idle j l u e = let d : j ≡ p = omega arith in never (cc (shown))

  fits : p + 1 ≤ 12
  fits = let l : p < 12 = page.in_pool in omega arith

  drop-class : (j d : ℕ) → j ≢ p → Mem j (listed s.ready) → eqb (entry_at (page_dropped s p) j).class d ≡ eqb (entry_at s j).class d
  drop-class j d n h =
      let l : j < 12 = (on_list_lem s b wf (entry_at s j).class j (on_own s b wf j h)).0.in_pool in
      ap (λ (x : PageEntry). eqb x.class d) (drop-entry j l n)
    where
      out : (j : ℕ) → j ≢ p → Out p 1 j
      out j n = side (lt? j p)
        where
          side : (j < p) ⊎ (p ≤ j) → Out p 1 j
          side (inl l) = inl l
          side (inr l) = inr (omega arith)

      drop-entry : (j : ℕ) → j < 12 → j ≢ p → entry_at (page_dropped s p) j ≡ entry_at s j
      drop-entry j l n =
          unfold page_dropped in unfold pages_freed in unfold entry_at in
          freed_same s b sh wf p 1 (omega arith) fits not-idle j l (out j n)

  drop-lists : (d : ℕ) → list_of (page_dropped s p) d ≡ upd (list_of s) c (keep (others p) (relisted (has_clear c m) p (list_of s c))) d
  drop-lists d = start ∙ go (eq? d c) (has_clear c m)
    where
      apart : (j : ℕ) → others p j ≡ true → j ≢ p
      apart j o e = unfold others in clash (o) (rw (eq-eqb j p e))

      ready-is : listed (page_dropped s p).ready ≡ keep (others p) (listed s.ready)
      ready-is = unfold page_dropped in unfold pages_freed in unlisted-read p s.ready

      dropped_list : list_of (page_dropped s p) d ≡ keep (λ j. eqb (entry_at (page_dropped s p) j).class d) (keep (others p) (listed s.ready))
      dropped_list = unfold list_of in ap (keep (λ j. eqb (entry_at (page_dropped s p) j).class d)) ready-is

      back : keep (others p) (keep (λ j. eqb (entry_at s j).class d) (listed s.ready)) ≡ keep (others p) (list_of s d)
      back = unfold list_of in refl

      start : list_of (page_dropped s p) d ≡ keep (others p) (list_of s d)
      start =
          dropped_list
          ∙ keep_same (λ j. eqb (entry_at (page_dropped s p) j).class d) (λ j. eqb (entry_at s j).class d) (keep (others p) (listed s.ready))
          (λ j h. let (a, o) = keep-mem (others p) j (listed s.ready) h in drop-class j d (apart j o) a)
          ∙ keep_swap (λ j. eqb (entry_at s j).class d) (others p) (listed s.ready) ∙ back

      go : (d ≡ c) ⊎ (d ≢ c) → (clear : Bool) → keep (others p) (list_of s d) ≡ upd (list_of s) c (keep (others p) (relisted clear p (list_of s c))) d
      go (inl e) true = rw (e, upd_same (list_of s) c (keep (others p) (relisted true p (list_of s c)))) (unfold relisted in refl)
      go (inl e) false = rw (e, upd_same (list_of s) c (keep (others p) (relisted false p (list_of s c)))) (unfold relisted in sym (keep-head p (list_of s c)))
      go (inr n) clear = keep-others p (list_of s d) (elsewhere d n) ∙ sym (upd_other (list_of s) c (keep (others p) (relisted clear p (list_of s c))) d n)

  pub page_dropped_lem : (i : ℕ) → i < chunks c → read_plain (page_dropped s p) (with_byte b p i 0) ≡ drop_page (read_plain s b) p c m
  unfolding read_plain drop_page release
  page_dropped_lem i in-page =
      λ x. record {
        size = 12;
        page = fun_ext (λ j. drop-marks j (eq? j p) ∙ drop_page_lem j) x;
        runs = drop-runs x;
        lists = fun_ext drop-lists x;
        tally = drop-counts x;
      }
    where
      shows-free : (k : ℕ → Bool) → page_of free_entry k ≡ idle
      shows-free k = unfold page_of in unfold free_entry in unfold pick in refl

      drop-entry : entry_at (page_dropped s p) p ≡ free_entry
      drop-entry =
          unfold page_dropped in unfold pages_freed in unfold entry_at in
          freed-entry s b sh wf p 1 (omega arith) fits not-idle p page.in_pool (omega arith) (omega arith)

      freed : (d : List ℕ) → page_at (page_dropped s p) d p ≡ idle
      freed d = page_in (page_dropped s p) d p page.in_pool ∙ rw drop-entry (shows-free _)

      drop-marks : (j : ℕ) → (j ≡ p) ⊎ (j ≢ p) → page_at (page_dropped s p) (with_byte b p i 0) j ≡ page_at (page_dropped s p) b j
      drop-marks j (inl e) = rw e (freed (with_byte b p i 0) ∙ sym (freed b))
      drop-marks j (inr n) =
          page-alike (page_dropped s p) (page_dropped s p) b (with_byte b p i 0) j refl
          (λ l d. marked_other b sh.bytes p page.in_pool i 0 (omega (arith, chunks-most c)) j d n)

      drop_page_lem : (j : ℕ) → page_at (page_dropped s p) b j ≡ fill (page_at s b) p 1 idle j
      drop_page_lem j = page_same (pages_freed s p 1) (page_dropped s p) b j (unfold page_dropped in unfold pages_freed in unfold entry_at in refl) ∙ freed-page s b sh wf p 1 (omega arith) fits not-idle j

      drop-runs : read_runs (page_dropped s p).runs ≡ join_runs p 1 (read_runs s.runs)
      drop-runs = unfold page_dropped in unfold pages_freed in freed-runs s b sh wf p 1 (omega arith) fits not-idle

      drop-counts : ◌≡◌ {A = ℕ → Tally} (λ (d : ℕ). tally_of (get_or (page_dropped s p).counts d no_counts)) (λ (d : ℕ). tally_of (get_or s.counts d no_counts))
      drop-counts = unfold page_dropped in unfold pages_freed in refl
