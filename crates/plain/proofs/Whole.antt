-- Alloc and free on a plain state answer and leave what the model's calls do.
use mathlib.Core.Path.{◌≡◌, refl, ap, ◌∙◌}
use mathlib.Core.Logic.{◌⊎◌, inl, inr}
use mathlib.Core.Bool.{Bool, true, false}
use mathlib.Core.Option.{none}
use mathlib.Core.List.{List, [], ◌∷◌}
use Prim.Native.Nat.{ℕ, ◌+◌, ◌*◌, ◌≤◌, ◌<◌}
use native.Mathlib.Omega.{arith}
use native.Mathlib.Nat.{mod-eq_of_lt}
use lib.Dec.{eqb, leb}
use lib.ListN.{length, get_or}
use borrow.Author.Tests.{lt-ltb, le-ltb, le-leb, lt-leb, leb-true, leb-false}
use Rattle.base.specs.Tests.{pick}
use Rattle.base.specs.Functions.{upd}
use Rattle.base.specs.Lists.{keep}
use Rattle.base.proofs.Cases.{lt?}
use Rattle.model.specs.Classes.{chunk, chunks, own, lowest, class_of, pages_for, need_of}
use Rattle.model.specs.State.{marks_of}
use Rattle.model.specs.Runs.{fit}
use Rattle.model.specs.Calls.{Answer, at, Reply, no_room, nothing_asked, refuse, alloc_run, cut_page, mark_chunk, alloc_chunk, alloc_for, alloc}
use Rattle.model.specs.WellFormed.{WellFormed}
use Rattle.model.proofs.Classes.{class_ok, own-few, chunk-ends, lowest_clear_lem}
use Rattle.plain.specs.Arrays.{place_of}
use Rattle.plain.specs.Table.{vacant, wrap, run_of, read_runs, first_fit, run_at}
use Rattle.plain.specs.Plain.{Plain, Served, Shaped, entry_at, mark_of, listed, list_of, read_plain}
use Rattle.plain.specs.Pages.{refused, granted, offset_of, alloc_at, alloc_pages}
use Rattle.plain.specs.Chunks.{with_byte, is_no_page}
use Rattle.plain.specs.Engine.{alloc_answer, is_ready, ready_page, chunk_offset, from_run, from_run_bytes, from_page, plain_alloc, plain_alloc_bytes}
use Rattle.plain.specs.Engine as engine
use Rattle.plain.proofs.Table.{fit-read}
use Rattle.plain.proofs.Pages.{found, inside-pool, run_taken_lem}
use Rattle.plain.proofs.Bytes.{marked_one}
use Rattle.plain.proofs.Marked.{ClassPage, on_list_lem, class-shown}
use Rattle.plain.proofs.Handed.{chunk_refused_lem, cut-found, q_in, page_cut_lem, chunk_taken_lem}

-- a plain answer, with the bytes that it leaves, is a reply of the model
pub record Meets (answer : Served → Answer) (r : Served) (b : List ℕ) (q : Reply) : Type 0 where
  pub answers : answer r ≡ q.answer
  pub leaves : read_plain r.after b ≡ q.after

pub small : (n : ℕ) → n < 4294967296 → wrap n ≡ n
unfolding wrap
small n h = mod-eq_of_lt h

none_found : (s : Plain) (b : List ℕ) → Shaped s b → (k : ℕ) → 1 ≤ k → 12 ≤ first_fit k s.runs → fit k (read_runs s.runs) ≡ none
unfolding run_at pick
none_found s b sh k pos h = fit-read k s.runs pos ∙ rw (le-ltb (first_fit k s.runs) (length s.runs) (omega (arith, sh.runs)))

-- ---- k pages

module _ (s : Plain) (b : List ℕ) (sh : Shaped s b) (wf : WellFormed (read_plain s b)) (k : ℕ) (pos : 1 ≤ k) where
  pub alloc_pages_lem : Meets alloc_answer (alloc_pages s k) b (alloc_run (read_plain s b) k (fit k (read_runs s.runs)))
  unfolding alloc_pages alloc_at alloc_answer granted refused pick
  alloc_pages_lem = go (lt? (first_fit k s.runs) 12)
    where
      offset-is : (h : first_fit k s.runs < 12) → at (offset_of (get_or s.runs (first_fit k s.runs) vacant).first) ≡ (alloc_run (read_plain s b) k (fit k (read_runs s.runs))).answer
      offset-is h =
          unfold offset_of in unfold alloc_run in unfold run_of in
          rw (
            found s b sh wf k pos (first_fit k s.runs) refl h,
            small (4096 * (get_or s.runs (first_fit k s.runs) vacant).first) (omega (arith, inside-pool s b sh wf k pos (first_fit k s.runs) refl h)),
          )

      go : (first_fit k s.runs < 12) ⊎ (12 ≤ first_fit k s.runs) → Meets alloc_answer (alloc_pages s k) b (alloc_run (read_plain s b) k (fit k (read_runs s.runs)))
      go (inl h) = rw (lt-ltb (first_fit k s.runs) 12 h) (record { answers = offset-is h; leaves = run_taken_lem s b sh wf k pos (first_fit k s.runs) refl h })
      go (inr h) = rw (le-ltb (first_fit k s.runs) 12 h, none_found s b sh k pos h) (unfold alloc_run in unfold refuse in unfold no_room in record { answers = refl; leaves = refl })

-- ---- a chunk

-- the first page of a class list, found by scanning the table
data First (x : ℕ) (l : List ℕ) : Type 0 where
  is_first : x < 12 → (rest : List ℕ) → l ≡ x ∷ rest → First x l
  is_none : 12 ≤ x → l ≡ [] → First x l

first_of : (cls : ℕ → ℕ) (c : ℕ) (t : List ℕ) → First (get_or t (place_of (λ p. pick (is_no_page p) false (eqb (cls p) c)) t) 255) (keep (λ p. eqb (cls p) c) (listed t))
unfolding place_of is_no_page listed pick
first_of cls c [] = is_none (omega arith) refl
first_of cls c (x ∷ t) = go (lt? x 12) (eqb (cls x) c) refl (first_of cls c t)
  where
    go : (x < 12) ⊎ (12 ≤ x) → (e : Bool) → eqb (cls x) c ≡ e → First (get_or t (place_of (λ p. pick (is_no_page p) false (eqb (cls p) c)) t) 255) (keep (λ p. eqb (cls p) c) (listed t))
        → First (get_or (x ∷ t) (place_of (λ p. pick (is_no_page p) false (eqb (cls p) c)) (x ∷ t)) 255) (keep (λ p. eqb (cls p) c) (listed (x ∷ t)))
    go (inl h) true e ih = rw (lt-leb 12 x h, lt-ltb x 12 h, e) (is_first h (keep (λ p. eqb (cls p) c) (listed t)) refl)
    go (inl h) false e ih = rw (lt-leb 12 x h, lt-ltb x 12 h, e) ih
    go (inr h) f e ih = rw (le-leb 12 x h, le-ltb x 12 h) ih

first-ready : (s : Plain) (c : ℕ) → First (ready_page s c) (list_of s c)
unfolding ready_page is_ready list_of
first-ready s c = first_of (λ p. (entry_at s p).class) c s.ready

module _ (s : Plain) (b : List ℕ) (sh : Shaped s b) (wf : WellFormed (read_plain s b)) (c : ℕ) (class : c ≤ 8) where
  from_run_lem : list_of s c ≡ [] → (i : ℕ) → i ≡ first_fit 1 s.runs → Meets alloc_answer (from_run s c i) (from_run_bytes s b c i) (cut_page (read_plain s b) c (fit 1 (read_runs s.runs)))
  unfolding from_run from_run_bytes alloc_answer granted refused pick
  from_run_lem empty i is = go (lt? i 12)
    where
      offset-is : (h : i < 12) → at (chunk_offset (get_or s.runs i vacant).first c (own c)) ≡ (cut_page (read_plain s b) c (fit 1 (read_runs s.runs))).answer
      offset-is h =
          unfold chunk_offset in unfold cut_page in unfold run_of in
          rw (
            cut-found s b sh wf c class empty i is h,
            small (4096 * (get_or s.runs i vacant).first + chunk c * own c) (omega (arith, q_in s b sh wf c class empty i is h, own-few c class, chunk-ends c class (own c) (omega (arith, own-few c class)))),
          )

      go : (i < 12) ⊎ (12 ≤ i) → Meets alloc_answer (from_run s c i) (from_run_bytes s b c i) (cut_page (read_plain s b) c (fit 1 (read_runs s.runs)))
      go (inl h) = rw (lt-ltb i 12 h) (record { answers = offset-is h; leaves = page_cut_lem s b sh wf c class empty i is h })
      go (inr h) =
          rw (le-ltb i 12 h, none_found s b sh 1 (omega arith) (rw is at h))
          (unfold cut_page in unfold refuse in unfold no_room in record { answers = refl; leaves = chunk_refused_lem s b sh c class })

  pub alloc_chunk_lem : Meets alloc_answer (engine.alloc_chunk s b c (ready_page s c)) (engine.alloc_chunk_bytes s b c (ready_page s c)) (alloc_chunk (read_plain s b) c (list_of s c))
  alloc_chunk_lem = go (first-ready s c)
    where
      p : ℕ
      p = ready_page s c

      none_model : alloc_chunk (read_plain s b) c [] ≡ cut_page (read_plain s b) c (fit 1 (read_runs s.runs))
      none_model = unfold alloc_chunk in unfold read_plain in refl

      page : (rest : List ℕ) → list_of s c ≡ p ∷ rest → ClassPage s b p c
      page rest e = (on_list_lem s b wf c p (rw e (inl refl))).0

      marks : (rest : List ℕ) → list_of s c ≡ p ∷ rest → ◌≡◌ {A = ℕ → Bool} (marks_of ((read_plain s b).page p)) (mark_of b p c)
      marks rest e = unfold read_plain in let P = page rest e in rw (class-shown s b p c P.in_pool P.kind P.class)

      first_model : (rest : List ℕ) → list_of s c ≡ p ∷ rest → alloc_chunk (read_plain s b) c (p ∷ rest) ≡ mark_chunk (read_plain s b) c p rest (mark_of b p c)
      first_model rest e = unfold alloc_chunk in ap (λ (m : ℕ → Bool). mark_chunk (read_plain s b) c p rest m) (marks rest e)

      offset-is : (rest : List ℕ) → list_of s c ≡ p ∷ rest → at (chunk_offset p c (lowest c (mark_of b p c))) ≡ (mark_chunk (read_plain s b) c p rest (mark_of b p c)).answer
      offset-is rest e =
          unfold chunk_offset in unfold mark_chunk in
          let l : lowest c (mark_of b p c) < chunks c = (lowest_clear_lem c (mark_of b p c) (on_list_lem s b wf c p (rw e (inl refl))).1).0 in
          ap at (small (4096 * p + chunk c * lowest c (mark_of b p c)) (omega (arith, (page rest e).in_pool, chunk-ends c class (lowest c (mark_of b p c)) l)))

      set-mark : (rest : List ℕ) → list_of s c ≡ p ∷ rest → mark_of (with_byte b p (lowest c (mark_of b p c)) 1) p c ≡ upd (mark_of b p c) (lowest c (mark_of b p c)) true
      set-mark rest e =
          marked_one b sh.bytes p (page rest e).in_pool (lowest c (mark_of b p c)) 1 c (lowest_clear_lem c (mark_of b p c) (on_list_lem s b wf c p (rw e (inl refl))).1).0

      go : First (ready_page s c) (list_of s c) → Meets alloc_answer (engine.alloc_chunk s b c (ready_page s c)) (engine.alloc_chunk_bytes s b c (ready_page s c)) (alloc_chunk (read_plain s b) c (list_of s c))
      go (is_none h e) =
          unfold engine.alloc_chunk in unfold engine.alloc_chunk_bytes in unfold is_no_page in unfold pick in
          rw (e, le-leb 12 (ready_page s c) h, none_model) (from_run_lem e (first_fit 1 s.runs) refl)
      go (is_first h rest e) =
          unfold engine.alloc_chunk in unfold engine.alloc_chunk_bytes in unfold is_no_page in unfold pick in unfold from_page in unfold granted in
          rw (e, lt-leb 12 (ready_page s c) h, first_model rest e, set-mark rest e)
          (record { answers = unfold alloc_answer in offset-is rest e; leaves = chunk_taken_lem s b sh wf c p rest e })

-- ---- alloc

pub alloc_met : (s : Plain) (b : List ℕ) → Shaped s b → WellFormed (read_plain s b) → (n : ℕ) → Meets alloc_answer (plain_alloc s b n) (plain_alloc_bytes s b n) (alloc (read_plain s b) n)
unfolding plain_alloc plain_alloc_bytes alloc need_of alloc_for pick
alloc_met s b sh wf n = go (eqb n 0) refl (leb n 2048) refl
  where
    class_model : alloc_chunk (read_plain s b) (class_of n) ((read_plain s b).lists (class_of n)) ≡ alloc_chunk (read_plain s b) (class_of n) (list_of s (class_of n))
    class_model = unfold read_plain in refl

    pages_model : alloc_run (read_plain s b) (pages_for n) (fit (pages_for n) (read_plain s b).runs) ≡ alloc_run (read_plain s b) (pages_for n) (fit (pages_for n) (read_runs s.runs))
    pages_model = unfold read_plain in refl

    some : 2048 < n → 1 ≤ pages_for n
    some h = unfold pages_for in omega arith

    go : (z : Bool) → eqb n 0 ≡ z → (t : Bool) → leb n 2048 ≡ t → Meets alloc_answer (plain_alloc s b n) (plain_alloc_bytes s b n) (alloc (read_plain s b) n)
    go true d t e = rw d (unfold nothing_asked in unfold refuse in unfold refused in unfold alloc_answer in record { answers = refl; leaves = refl })
    go false d true e = rw (d, e, class_model) (alloc_chunk_lem s b sh wf (class_of n) (class_ok n (leb-true n 2048 e)))
    go false d false e = rw (d, e, pages_model) (alloc_pages_lem s b sh wf (pages_for n) (some (leb-false n 2048 e)))
