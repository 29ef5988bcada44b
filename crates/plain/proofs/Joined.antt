-- The operations on what is kept by value, joined with a table of free runs that suffers what they tell, are those on the plain state.
use mathlib.Core.Path.{◌≡◌, refl, sym, ◌∙◌}
use mathlib.Core.Logic.{◌⊎◌, inl, inr}
use mathlib.Core.Bool.{Bool, true, false, not}
use mathlib.Core.List.{List, [], ◌∷◌}
use Prim.Native.Nat.{ℕ, suc, ◌≤◌, ◌<◌, ◌/◌, ◌%◌}
use native.Mathlib.Omega.{arith}
use lib.Dec.{eqb, leb, ltb}
use lib.ListN.{length, get_or}
use borrow.Author.Tests.{ne_eqb, leb-true, eqb-true, leb-false, lt-ltb, le-ltb, ltb-true}
use Rattle.base.specs.Tests.{pick}
use Rattle.base.proofs.Cases.{lt?}
use Rattle.model.specs.Classes.{class_of, pages_for, starts_chunk, chunk}
use Rattle.plain.specs.declared.Extent.{Extent}
use Rattle.plain.specs.declared.PageEntry.{PageEntry}
use Rattle.plain.specs.declared.Kept.{Kept}
use Rattle.plain.specs.declared.Done.{Done}
use Rattle.plain.specs.Arrays.{place_of}
use Rattle.plain.specs.Table.{vacant, is_vacant, holds, first_fit}
use Rattle.plain.specs.Plain.{Plain, Served, plain_of, entry_at, free_entry, mark_of}
use Rattle.plain.specs.Pages.{run_taken, pages_freed, granted, refused, offset_of, alloc_at, alloc_pages}
use Rattle.plain.specs.Chunks.{is_no_page, chunk_refused, page_cut, chunk_taken, chunk_back, page_dropped, chunk_freed}
use Rattle.plain.specs.Engine.{is_ready, ready_page, from_run, from_run_bytes, from_page, alloc_chunk, alloc_chunk_bytes, plain_alloc, plain_alloc_bytes, free_marked, free_chunk_at, free_run_at, free_kind, free_kind_bytes, free_in, free_in_bytes, plain_free, plain_free_bytes}
use Rattle.plain.specs.Mirror.{done_with, done_granted, done_refused, answer_of, carved, returned, served_with, kept_taken, kept_freed, kept_refused, kept_cut, kept_handed, kept_back, kept_unlisted, kept_dropped, class_in, ready_in, kept_ready, cut_from, from_entry, from_entry_bytes, from_listed, chunk_done, chunk_done_bytes, pages_done, kept_alloc, kept_alloc_bytes, wanted_pages, chunk_back_done, marked_done, chunk_at_done, class_done, run_done, kind_done, kind_done_bytes, in_done, in_done_bytes, kept_free, kept_free_bytes}

-- ---- a choice on both sides

module _ {A B : Type 0} (f : A → B) where
  pub alike : (t : Bool) {x y : B} {a b : A} → (t ≡ true → x ≡ f a) → (t ≡ false → y ≡ f b) → pick t x y ≡ f (pick t a b)
  unfolding pick
  alike true h k = h refl
  alike false h k = k refl

  pub turned : (t u : Bool) {x y : B} {a b : A} → t ≡ not u → x ≡ f b → y ≡ f a → pick t x y ≡ f (pick u a b)
  unfolding pick
  turned t true e h k = rw e k
  turned t false e h k = rw e h

-- ---- alloc

ltb-suc : (i n : ℕ) → ltb (suc i) (suc n) ≡ ltb i n
ltb-suc i n = go (lt? i n)
  where
    go : (i < n) ⊎ (n ≤ i) → ltb (suc i) (suc n) ≡ ltb i n
    go (inl h) = rw (lt-ltb i n h, lt-ltb (suc i) (suc n) (omega arith))
    go (inr h) = rw (le-ltb i n h, le-ltb (suc i) (suc n) (omega arith))

-- the first fit is a place of the table exactly where its entry is a run
fits : (k : ℕ) (t : List Extent) → 1 ≤ k → ltb (first_fit k t) (length t) ≡ not (is_vacant (get_or t (first_fit k t) vacant))
unfolding first_fit place_of pick is_vacant holds vacant
fits k [] h = refl
fits k (x ∷ t) h = go (leb k x.len) refl (fits k t h)
  where
    go : (z : Bool) → leb k x.len ≡ z → ltb (first_fit k t) (length t) ≡ not (is_vacant (get_or t (first_fit k t) vacant))
        → ltb (pick z 0 (suc (first_fit k t))) (suc (length t)) ≡ not (is_vacant (get_or (x ∷ t) (pick z 0 (suc (first_fit k t))) vacant))
    go true d ih = rw (ne_eqb x.len 0 (λ z. let l = leb-true k x.len d in omega arith)) (lt-ltb 0 (suc (length t)) (omega arith))
    go false d ih = ltb-suc (first_fit k t) (length t) ∙ ih

many_pages : (n : ℕ) → 1 ≤ n → 1 ≤ pages_for n
unfolding pages_for
many_pages n h = omega arith

module _ (s : Kept) (t : List Extent) (long : length t ≡ 12) where
  abbrev p : Plain
  p = plain_of s t

  abbrev carve : ℕ → Done → Served
  carve i d = served_with (answer_of d) (carved i d.len t)

  fits_12 : (k : ℕ) → 1 ≤ k → ltb (first_fit k t) 12 ≡ not (is_vacant (get_or t (first_fit k t) vacant))
  fits_12 k h = rw (sym long) (fits k t h)

  run-joined : (c : ℕ) → from_run p c (first_fit 1 t) ≡ carve (first_fit 1 t) (from_entry s c (get_or t (first_fit 1 t) vacant))
  unfolding from_run from_entry
  run-joined c =
      turned (carve (first_fit 1 t)) _ _ (fits_12 1 (omega arith))
      (unfold granted in unfold page_cut in unfold cut_from in unfold done_with in unfold kept_cut in unfold carved in unfold pick in refl)
      (unfold refused in unfold chunk_refused in unfold done_refused in unfold kept_refused in unfold carved in unfold pick in refl)

  chunk-joined : (b : List ℕ) (c q : ℕ) → alloc_chunk p b c q ≡ carve (first_fit 1 t) (chunk_done s b c q (get_or t (first_fit 1 t) vacant))
  unfolding alloc_chunk chunk_done
  chunk-joined b c q =
      alike (carve (first_fit 1 t)) (is_no_page q) (λ _. run-joined c)
      (λ _. unfold from_page in unfold granted in unfold chunk_taken in unfold from_listed in unfold done_granted in unfold kept_handed in unfold carved in unfold pick in refl)

  pages-joined : (k : ℕ) → 1 ≤ k → alloc_pages p k ≡ carve (first_fit k t) (pages_done s k (get_or t (first_fit k t) vacant))
  unfolding alloc_pages alloc_at pages_done
  pages-joined k h =
      turned (carve (first_fit k t)) _ _ (fits_12 k h)
      (unfold granted in unfold run_taken in unfold done_with in unfold kept_taken in unfold carved in unfold pick in rw (ne_eqb k 0 (λ z. omega arith)))
      (unfold refused in unfold done_refused in unfold carved in unfold pick in refl)

  abbrev at-fit : ℕ → Extent
  at-fit k = get_or t (first_fit k t) vacant

  sized : (b : List ℕ) (n c r : ℕ) (z : Bool) → leb n 2048 ≡ z
      → pick z (alloc_chunk p b c r) (alloc_pages p (pages_for n)) ≡ carve (first_fit (pick z 1 (pages_for n)) t) (pick z (chunk_done s b c r (at-fit (pick z 1 (pages_for n)))) (pages_done s (pages_for n) (at-fit (pick z 1 (pages_for n)))))
  unfolding pick
  sized b n c r true d = chunk-joined b c r
  sized b n c r false d = pages-joined (pages_for n) (let l = leb-false n 2048 d in many_pages n (omega arith))

  pub alloc-joined : (b : List ℕ) (n : ℕ) → plain_alloc p b n ≡ carve (first_fit (wanted_pages n) t) (kept_alloc s b n (at-fit (wanted_pages n)))
  unfolding plain_alloc kept_alloc wanted_pages ready_page is_ready entry_at kept_ready ready_in class_in
  alloc-joined b n =
      alike (carve _) (eqb n 0) (λ _. unfold refused in unfold done_refused in unfold carved in unfold pick in refl)
      (λ z. sized b n (class_of n) _ (leb n 2048) refl)

  run-bytes : (b : List ℕ) (c : ℕ) → from_run_bytes p b c (first_fit 1 t) ≡ from_entry_bytes b c (get_or t (first_fit 1 t) vacant)
  unfolding from_run_bytes from_entry_bytes
  run-bytes b c = turned (λ (x : List ℕ). x) _ _ (fits_12 1 (omega arith)) refl refl

  chunk_bytes : (b : List ℕ) (c q : ℕ) → alloc_chunk_bytes p b c q ≡ chunk_done_bytes b c q (get_or t (first_fit 1 t) vacant)
  unfolding alloc_chunk_bytes chunk_done_bytes
  chunk_bytes b c q = alike (λ (x : List ℕ). x) (is_no_page q) (λ _. run-bytes b c) (λ _. refl)

  sized-bytes : (b : List ℕ) (n c r : ℕ) (z : Bool) → pick z (alloc_chunk_bytes p b c r) b ≡ pick z (chunk_done_bytes b c r (at-fit (pick z 1 (pages_for n)))) b
  unfolding pick
  sized-bytes b n c r true = chunk_bytes b c r
  sized-bytes b n c r false = refl

  pub alloc-bytes : (b : List ℕ) (n : ℕ) → plain_alloc_bytes p b n ≡ kept_alloc_bytes s b n (at-fit (wanted_pages n))
  unfolding plain_alloc_bytes kept_alloc_bytes wanted_pages ready_page is_ready entry_at kept_ready ready_in class_in
  alloc-bytes b n = alike (λ (x : List ℕ). x) (eqb n 0) (λ _. refl) (λ z. sized-bytes b n (class_of n) _ (leb n 2048))

-- ---- free

-- a taken run has pages
unfoldable pub Paged : PageEntry → Type 0
Paged e = e.kind ≡ 2 → 1 ≤ e.run

module _ (s : Kept) (t : List Extent) where
  abbrev q : Plain
  q = plain_of s t

  abbrev back : Done → Served
  back d = served_with (answer_of d) (returned d.first d.len t)

  pub no-back : (n : ℕ) → refused q n ≡ back (done_refused s n)
  unfolding refused done_refused returned pick
  no-back n = refl

  chunk_back_lem : (p c : ℕ) (clear left : Bool) → granted (chunk_freed q p clear left) (chunk c) ≡ back (chunk_back_done s p (chunk c) clear left)
  unfolding chunk_freed chunk_back_done pick granted chunk_back page_dropped pages_freed done_granted done_with kept_back kept_dropped kept_freed kept_unlisted returned
  chunk_back_lem p c clear true = refl
  chunk_back_lem p c clear false = refl

  marked-joined : (b : List ℕ) (p c i : ℕ) → free_marked q b p c i ≡ back (marked_done s b p c i)
  unfolding free_marked marked_done
  marked-joined b p c i = chunk_back_lem p c _ _

  class-joined : (b : List ℕ) (p c x : ℕ) → free_chunk_at q b p c x ≡ back (class_done s b p c x)
  unfolding free_chunk_at class_done chunk_at_done
  class-joined b p c x =
      alike back (starts_chunk c x) (λ _. alike back (mark_of b p c (x / chunk c)) (λ _. marked-joined b p c (x / chunk c)) (λ _. no-back 6)) (λ _. no-back 7)

  run-back : (p n x : ℕ) → 1 ≤ n → free_run_at q p n x ≡ back (run_done s p n x)
  unfolding free_run_at run_done offset_of
  run-back p n x h =
      alike back (eqb x 0)
      (λ _. unfold granted in unfold pages_freed in unfold done_with in unfold kept_freed in unfold returned in unfold pick in rw (ne_eqb n 0 (λ z. omega arith)))
      (λ _. no-back 7)

  kind-joined : (b : List ℕ) (p x : ℕ) → Paged (entry_at q p) → free_kind q b p x (entry_at q p).kind ≡ back (kind_done s b p x (entry_at q p))
  unfolding free_kind kind_done Paged
  kind-joined b p x h =
      alike back (eqb (entry_at q p).kind 0) (λ _. no-back 6)
      (λ _. alike back (eqb (entry_at q p).kind 1) (λ _. class-joined b p _ x)
      (λ _. alike back (eqb (entry_at q p).kind 2) (λ e. run-back p _ x (h (eqb-true _ 2 e))) (λ _. no-back 7)))

  pub free-joined : (b : List ℕ) (off : ℕ) → ((p : ℕ) → p < 12 → Paged (get_or s.pages p free_entry)) → plain_free q b off ≡ back (kept_free s b off)
  unfolding plain_free free_in kept_free in_done
  free-joined b off h =
      alike back (ltb (off / 4096) 12) (λ e. unfold entry_at in kind-joined b (off / 4096) (off % 4096) (h (off / 4096) (ltb-true (off / 4096) 12 e))) (λ _. no-back 5)

  pub free_bytes : (b : List ℕ) (off : ℕ) → plain_free_bytes q b off ≡ kept_free_bytes s b off
  unfolding plain_free_bytes free_in_bytes free_kind_bytes kept_free_bytes in_done_bytes kind_done_bytes entry_at
  free_bytes b off = refl
