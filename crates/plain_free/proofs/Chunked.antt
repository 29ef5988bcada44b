-- A chunk of a class page, by its bytes into the page.
use Rattle.plain_counts.proofs.Counting.{count_most}
use mathlib.Core.Path.{◌≡◌, refl, sym, ap, ◌∙◌}
use mathlib.Core.Bool.{Bool, true, false, ◌&&◌}
use mathlib.Core.List.{List}
use Prim.Native.Nat.{ℕ, ◌/◌, ◌%◌, ◌≤◌, ◌<◌}
use native.Mathlib.Nat.{div-add-mod', mul_comm}
use native.Mathlib.Omega.{arith}
use lib.Dec.{eqb, leb, ltb}
use Rattle.base.specs.Tests.{pick}
use Rattle.model.specs.Classes.{chunk, chunks, own, starts_chunk, has_taken}
use Rattle.model.proofs.Classes.{chunk_index}
use Rattle.plain.specs.Engine.{free_chunk_bytes}
use Rattle.plain.specs.Mirror.{chunk_at_bytes}
use Rattle.plain.proofs.Bytes.{chunks-most}
use Rattle.plain_rules.specs.Counts.{hands_on}
use Rattle.plain_rules.proofs.Counted.{hands_taken}

both_and : (t u : Bool) → pick t u false ≡ t && u
unfolding pick
both_and true u = refl
both_and false u = refl

pub starts_is : (c q size first : ℕ) (r : Bool) → size ≡ chunk c → first ≡ own c → r ≡ pick (eqb (q % size) 0) (leb first (q / size)) false → r ≡ starts_chunk c q
unfolding starts_chunk
starts_is c q size first r e f g = (rw (e, f) at g) ∙ both_and (eqb (q % chunk c) 0) (leb (own c) (q / chunk c))

-- ---- bounds

pub chunk_few : (i c : ℕ) → i < chunks c → i ≤ 512
chunk_few i c h = omega (arith, chunks-most c)

pub index_below : (c q size : ℕ) → c ≤ 8 → q < 4096 → size ≡ chunk c → q / size < chunks c
index_below c q size h l e = rw e (chunk_index c h (q / chunk c) (omega (arith, div-add-mod' q (chunk c), mul_comm (chunk c) (q / chunk c))))

-- ---- what begins so many bytes into a page

module _ (b : List ℕ) (p c q size : ℕ) (e : size ≡ chunk c) where
  pub start-bytes : (r : List ℕ) (u : Bool) → u ≡ starts_chunk c q → u ≡ true → r ≡ chunk_at_bytes b p c (q / size) → r ≡ free_chunk_bytes b p c q
  unfolding free_chunk_bytes chunk_at_bytes pick
  start-bytes r u d t h = rw (sym d ∙ t) (rw e at h)

pub taken_told : (c k : ℕ) (m : ℕ → Bool) → k ≡ hands_on c m → ltb 0 k ≡ has_taken c m
taken_told c k m e = ap (λ (n : ℕ). ltb 0 n) e ∙ hands_taken c m

-- ---- for the functions' attributes

pub ruleset chunk_bounds = (count_most, chunk_few)

pub ruleset in_page = (index_below, chunks-most)
