-- What alloc and free keep beside what the model says: there are four kinds of pages, and a refusal has the value 0.
use mathlib.Core.Path.{◌≡◌, refl}
use mathlib.Core.Logic.{◌⊎◌, inl, inr, ◌≢◌}
use mathlib.Core.Bool.{Bool, true, false}
use mathlib.Core.List.{List, [], ◌∷◌}
use Prim.Native.Nat.{ℕ, zero, suc, ◌+◌, ◌≤◌, ◌<◌}
use native.Mathlib.Omega.{arith}
use lib.Dec.{eqb, leb, ltb}
use lib.ListN.{length, get_or, set}
use Rattle.base.specs.Tests.{pick}
use Rattle.base.proofs.Cases.{lt?}
use Rattle.plain.specs.Arrays.{remade}
use Rattle.plain.specs.Table.{vacant}
use Rattle.plain.specs.Plain.{Plain, Served, free_entry}
use Rattle.plain.specs.Pages.{taken_at, freed_at, run_taken, pages_freed, granted, refused, alloc_at, alloc_pages}
use Rattle.plain.specs.Chunks.{chunk_refused, page_cut, chunk_taken, chunk_back, page_dropped, chunk_freed}
use Rattle.plain.specs.Engine.{from_run, from_page, alloc_chunk, plain_alloc, free_marked, free_chunk_at, free_run_at, free_kind, free_in, plain_free}
use Rattle.plain.specs.declared.PageEntry.{PageEntry}
use Rattle.plain.proofs.Loops.{get_d_remade, get_d_past, length-remade}

pub record Kinds (t : List PageEntry) : Type 0 where
  pub kind : (p : ℕ) → (get_or t p free_entry).kind ≤ 3

pub record Tidy (r : Served) : Type 0 where
  pub kinds : Kinds r.after.pages
  pub none : r.number ≢ 0 → r.value ≡ 0

either : {A : Type 0} (P : A → Type 0) (t : Bool) {x y : A} → P x → P y → P (pick t x y)
unfolding pick
either P true p q = p
either P false p q = q

taken-kind : (p k j : ℕ) (e : PageEntry) → e.kind ≤ 3 → (taken_at p k j e).kind ≤ 3
unfolding taken_at pick
taken-kind p k j e h = go (eqb j p) (leb p j) (ltb j (p + k))
  where
    go : (x y z : Bool) → (pick x (record { kind = 2; class = 0; run = k }) (pick y (pick z (record { kind = 3; class = 0; run = 0 }) e) e)).kind ≤ 3
    go true y z = omega arith
    go false true true = omega arith
    go false true false = h
    go false false z = h

freed-kind : (p k j : ℕ) (e : PageEntry) → e.kind ≤ 3 → (freed_at p k j e).kind ≤ 3
unfolding freed_at pick free_entry
freed-kind p k j e h = go (leb p j) (ltb j (p + k))
  where
    go : (y z : Bool) → (pick y (pick z free_entry e) e).kind ≤ 3
    go true true = omega arith
    go true false = h
    go false z = h

remade-kinds : (f : ℕ → PageEntry → PageEntry) → ((j : ℕ) (e : PageEntry) → e.kind ≤ 3 → (f j e).kind ≤ 3) → (t : List PageEntry) → Kinds t → Kinds (remade f 0 t)
remade-kinds f h t k = record { kind = λ p. go p (lt? p (length t)) }
  where
    go : (p : ℕ) → (p < length t) ⊎ (length t ≤ p) → (get_or (remade f 0 t) p free_entry).kind ≤ 3
    go p (inl l) = rw (get_d_remade f t p free_entry l) (h p (get_or t p free_entry) (k.kind p))
    go p (inr l) = rw (get_d_past (remade f 0 t) p free_entry (rw (length-remade f 0 t) l)) (unfold free_entry in omega arith)

set-kinds : (t : List PageEntry) (i : ℕ) (e : PageEntry) → e.kind ≤ 3 → Kinds t → Kinds (set t i e)
set-kinds t i e h k = record { kind = λ p. go t i p (k.kind p) k.kind }
  where
    go : (t : List PageEntry) (i p : ℕ) → (get_or t p free_entry).kind ≤ 3 → ((p : ℕ) → (get_or t p free_entry).kind ≤ 3) → (get_or (set t i e) p free_entry).kind ≤ 3
    go [] i p l a = l
    go (x ∷ t) zero zero l a = h
    go (x ∷ t) zero (suc p) l a = l
    go (x ∷ t) (suc i) zero l a = l
    go (x ∷ t) (suc i) (suc p) l a = go t i p l (λ q. a (suc q))

module _ (s : Plain) (k : Kinds s.pages) where
  of_run : (n i : ℕ) → Kinds (run_taken s n i).pages
  unfolding run_taken
  of_run n i = remade-kinds (taken_at (get_or s.runs i vacant).first n) (taken-kind (get_or s.runs i vacant).first n) s.pages k

  of_pages : (p n : ℕ) → Kinds (pages_freed s p n).pages
  unfolding pages_freed
  of_pages p n = remade-kinds (freed_at p n) (freed-kind p n) s.pages k

  of_cut : (c i : ℕ) → Kinds (page_cut s c i).pages
  unfolding page_cut
  of_cut c i = set-kinds s.pages _ _ (omega arith) k

  of_dropped : (p : ℕ) → Kinds (page_dropped s p).pages
  unfolding page_dropped pages_freed
  of_dropped p = remade-kinds (freed_at p 1) (freed-kind p 1) s.pages k

  is-granted : (t : Plain) (v : ℕ) → Kinds t.pages → Tidy (granted t v)
  unfolding granted
  is-granted t v h = record { kinds = h; none = λ d. absurd (d refl) }

  is-refused : (t : Plain) (n : ℕ) → Kinds t.pages → Tidy (refused t n)
  unfolding refused
  is-refused t n h = record { kinds = h; none = λ d. refl }

  pub tidy_alloc : (b : List ℕ) (n : ℕ) → Tidy (plain_alloc s b n)
  unfolding plain_alloc alloc_chunk from_run from_page alloc_pages alloc_at chunk_refused chunk_taken
  tidy_alloc b n =
      either Tidy _ (is-refused _ _ k)
      (either Tidy _ (either Tidy _ (either Tidy _ (is-granted _ _ (of_cut _ _)) (is-refused _ _ k)) (is-granted _ _ k)) (either Tidy _ (is-granted _ _ (of_run _ _)) (is-refused _ _ k)))

  freed-kinds : (p : ℕ) (clear left : Bool) → Kinds (chunk_freed s p clear left).pages
  unfolding chunk_freed chunk_back
  freed-kinds p clear left = either (λ (t : Plain). Kinds t.pages) left k (of_dropped p)

  pub tidy_free : (b : List ℕ) (off : ℕ) → Tidy (plain_free s b off)
  unfolding plain_free free_in free_kind free_chunk_at free_marked free_run_at
  tidy_free b off =
      either Tidy _
      (either Tidy _ (is-refused _ _ k)
      (either Tidy _ (either Tidy _ (either Tidy _ (is-granted _ _ (freed-kinds _ _ _)) (is-refused _ _ k)) (is-refused _ _ k))
      (either Tidy _ (either Tidy _ (is-granted _ _ (of_pages _ _)) (is-refused _ _ k)) (is-refused _ _ k))))
      (is-refused _ _ k)
