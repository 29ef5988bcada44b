-- The tables and the slice keep their lengths.
use mathlib.Core.Path.{◌≡◌, refl, ap, ◌∙◌}
use mathlib.Core.Bool.{Bool, true, false}
use mathlib.Core.List.{List, [], ◌∷◌}
use Prim.Native.Nat.{ℕ, suc}
use lib.ListN.{length, length-set}
use Rattle.base.specs.Tests.{pick}
use Rattle.plain.specs.Arrays.{pushed}
use Rattle.plain.specs.Table.{carved_at, cleared, released}
use Rattle.plain.specs.Plain.{Plain, Served}
use Rattle.plain.specs.Pages.{run_taken, pages_freed, granted, refused, alloc_at, alloc_pages}
use Rattle.plain.specs.Chunks.{new_bytes, with_byte, listed_first, unlisted, count_ask, count_failure, chunk_refused, page_cut, chunk_taken, chunk_back, page_dropped, chunk_freed}
use Rattle.plain.specs.Engine.{from_run, from_run_bytes, from_page, alloc_chunk, alloc_chunk_bytes, plain_alloc, plain_alloc_bytes, free_marked, free_chunk_at, free_chunk_bytes, free_run_at, free_kind, free_kind_bytes, free_in, free_in_bytes, plain_free, plain_free_bytes}
use Rattle.plain.proofs.Loops.{length-remade}

-- the lengths of the tables
pub record Tables (s : Plain) : Type 0 where
  pub runs : length s.runs ≡ 12
  pub pages : length s.pages ≡ 12
  pub ready : length s.ready ≡ 12
  pub counts : length s.counts ≡ 9

pub either : {A : Type 0} (P : A → Type 0) (t : Bool) {x y : A} → P x → P y → P (pick t x y)
unfolding pick
either P true p q = p
either P false p q = q

pub length-pushed : {A : Type 0} (empty : A → Bool) (x : A) (t : List A) → length (pushed empty x t) ≡ length t
unfolding pushed pick
length-pushed empty x [] = refl
length-pushed empty x (y ∷ t) = go (empty y) (length-pushed empty y t)
  where
    go : (e : Bool) → length (pushed empty y t) ≡ length t → length (x ∷ pick e t (pushed empty y t)) ≡ suc (length t)
    go true ih = refl
    go false ih = ap suc ih

-- ---- operations

module _ (s : Plain) (t : Tables s) where
  of_run : (k i : ℕ) → Tables (run_taken s k i)
  unfolding run_taken carved_at
  of_run k i = record { runs = simp length-set t.runs; pages = length-remade _ _ _ ∙ t.pages; ready = t.ready; counts = t.counts }

  of_pages : (p k : ℕ) → Tables (pages_freed s p k)
  unfolding pages_freed released cleared
  of_pages p k = record { runs = length-pushed _ _ _ ∙ length-remade _ _ _ ∙ t.runs; pages = length-remade _ _ _ ∙ t.pages; ready = t.ready; counts = t.counts }

  of_refused : (c : ℕ) → Tables (chunk_refused s c)
  unfolding chunk_refused count_failure
  of_refused c = record { runs = t.runs; pages = t.pages; ready = t.ready; counts = simp length-set t.counts }

  of_cut : (c i : ℕ) → Tables (page_cut s c i)
  unfolding page_cut carved_at listed_first count_ask
  of_cut c i = record { runs = simp length-set t.runs; pages = simp length-set t.pages; ready = length-pushed _ _ _ ∙ t.ready; counts = simp length-set t.counts }

  of_unlisted : (p : ℕ) → length (unlisted p s.ready) ≡ 12
  unfolding unlisted
  of_unlisted p = length-remade _ _ _ ∙ t.ready

  of_listed : (p : ℕ) → length (listed_first p s.ready) ≡ 12
  unfolding listed_first
  of_listed p = length-pushed _ _ _ ∙ t.ready

  of_taken : (c p : ℕ) (b : Bool) → Tables (chunk_taken s c p b)
  unfolding chunk_taken count_ask
  of_taken c p b = record { runs = t.runs; pages = t.pages; ready = either (λ (l : List ℕ). length l ≡ 12) b t.ready (of_unlisted p); counts = simp length-set t.counts }

  of_back : (p : ℕ) (b : Bool) → Tables (chunk_back s p b)
  unfolding chunk_back
  of_back p b = record { runs = t.runs; pages = t.pages; ready = either (λ (l : List ℕ). length l ≡ 12) b t.ready (of_listed p); counts = t.counts }

pub of_dropped : (s : Plain) → Tables s → (p : ℕ) → Tables (page_dropped s p)
unfolding page_dropped
of_dropped s t p = of_pages (record { runs = s.runs; pages = s.pages; ready = unlisted p s.ready; counts = s.counts; free = s.free })
    (record { runs = t.runs; pages = t.pages; ready = of_unlisted s t p; counts = t.counts }) p 1

-- ---- calls

abbrev Good : Served → Type 0
Good r = Tables r.after

pub tables-alloc : (s : Plain) (b : List ℕ) (n : ℕ) → Tables s → Tables (plain_alloc s b n).after
unfolding plain_alloc alloc_chunk from_run from_page alloc_pages alloc_at granted refused
tables-alloc s b n t =
    either Good _ t (either Good _ (either Good _ (either Good _ (of_cut s t _ _) (of_refused s t _)) (of_taken s t _ _ _)) (either Good _ (of_run s t _ _) t))

pub tables-free : (s : Plain) (b : List ℕ) (off : ℕ) → Tables s → Tables (plain_free s b off).after
unfolding plain_free free_in free_kind free_chunk_at free_marked chunk_freed free_run_at granted refused
tables-free s b off t =
    either Good _ (either Good _ t (either Good _ (either Good _ (either Good _ (either Tables _ (of_back s t _ _) (of_dropped s t _)) t) t)
    (either Good _ (either Good _ (of_pages s t _ _) t) t))) t

-- the slice keeps its length

pub bytes-alloc : (s : Plain) (b : List ℕ) (n : ℕ) → length (plain_alloc_bytes s b n) ≡ length b
unfolding plain_alloc_bytes alloc_chunk_bytes from_run_bytes new_bytes with_byte
bytes-alloc s b n =
    either Same _ refl (either Same _ (either Same _ (either Same _ (length-remade _ _ _) refl) (simp length-set refl)) refl)
  where
    Same : List ℕ → Type 0
    Same x = length x ≡ length b

pub bytes-free : (s : Plain) (b : List ℕ) (off : ℕ) → length (plain_free_bytes s b off) ≡ length b
unfolding plain_free_bytes free_in_bytes free_kind_bytes free_chunk_bytes with_byte
bytes-free s b off = either Same _ (either Same _ refl (either Same _ (either Same _ (either Same _ (simp length-set refl) refl) refl) refl)) refl
  where
    Same : List ℕ → Type 0
    Same x = length x ≡ length b
