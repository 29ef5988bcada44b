-- Free on the bytes of a sound pool does what the model does, given what each operation does.
use mathlib.Core.Path.{◌≡◌, refl, sym}
use mathlib.Core.Logic.{◌⊎◌, inl, inr, ◌≢◌}
use mathlib.Core.Bool.{Bool, true, false, cond}
use mathlib.Core.List.{List}
use Prim.Native.Nat.{ℕ, ◌/◌, ◌%◌, ◌≤◌, ◌<◌}
use native.Mathlib.Omega.{arith}
use borrow.Author.Tests.{eq-eqb, ne_eqb, lt-ltb, le-ltb, le-leb, lt-leb}
use Rattle.base.specs.Tests.{pick}
use Rattle.base.proofs.Cases.{bool?, eq?, lt?}
use Rattle.records.specs.Layout.{no_page}
use Rattle.records.specs.Page.{links_at}
use Rattle.answers.specs.Outcome.{refused}
use Rattle.answers.specs.declared.Refusal.TheVariants.{Outside}
use Rattle.maps.specs.Bitmap.{with_mark}
use Rattle.base.specs.Functions.{upd}
use Rattle.model.specs.Classes.{chunk, chunks, own, has_taken, starts_chunk}
use Rattle.model.specs.State.{Page, idle, slab, taken, inside, edge, State}
use Rattle.model.specs.Runs.{starts_at}
use Rattle.model.specs.Calls.{outside, not_taken, not_a_start, refuse, release, free_chunk, free_at, free}
use Rattle.rules.specs.Bytes.{pages_in, map_base}
use Rattle.rules.specs.Drawn.{links, free_links, page_links}
use Rattle.run_neighbours.specs.Mirror.{pages_released}
use Rattle.chunks.specs.Mirror.{chunk_freed}
use Rattle.locate.specs.Mirror.{past_found, start_found, sized_found, offset_found, class_found, run_found, kind_found, page_found, located}
use Rattle.free_sound.specs.Mirror.{marked, chunk_outcome, chunk_slice, found_outcome, found_slice, free_outcome, free_slice}
use Rattle.drawing.specs.Draw.{draw}
use Rattle.demands.specs.Calls.{cleared_at}
use Rattle.demands.proofs.Allocs.{Does}

-- what reading and each operation do on the bytes s, which show the state m
pub record FreeFacts (w : ℕ) (s : List ℕ) (m : State) : Type 0 where
  pub same : draw w s m ≡ s
  pub few : pages_in w s ≤ no_page
  pub past : (p : ℕ) → pages_in w s ≤ p → m.page p ≡ edge
  pub ends : (p : ℕ) → p < pages_in w s → m.page p ≢ edge
  pub links : (p : ℕ) → p < pages_in w s → links_at w s p ≡ page_links m.runs m.lists p (m.page p)
  pub class : (p c : ℕ) (b : ℕ → Bool) → m.page p ≡ slab c b → c ≤ 8
  -- a page has no chunk past its chunks
  pub index : (c q : ℕ) → c ≤ 8 → q < 4096 → q / chunk c < chunks c
  pub few-chunks : (c : ℕ) → c ≤ 8 → chunks c ≤ 512
  pub mark : (p c i : ℕ) (b : ℕ → Bool) → p < pages_in w s → m.page p ≡ slab c b → i < chunks c → marked w s (pages_in w s) c p i ≡ b i
  pub chunk : (p c i : ℕ) (b : ℕ → Bool) → m.page p ≡ slab c b → own c ≤ i → i < chunks c → b i ≡ true →
      chunk_freed w s (pages_in w s) c p i ≡ draw w (cond (has_taken c (upd b i false)) s (with_mark s (map_base w (pages_in w s) p c) i false)) (free_chunk m p c b i)
  pub run : (p n : ℕ) → m.page p ≡ taken n → pages_released w s (pages_in w s) p n ≡ draw w s (release m p n)

module _ {w : ℕ} {s : List ℕ} {m : State} (F : FreeFacts w s m) where
  abbrev P : ℕ
  P = pages_in w s

  -- a chunk of a class page, q bytes in
  chunk_does : (p q c : ℕ) (b : ℕ → Bool) → p < P → q < 4096 → m.page p ≡ slab c b →
      Does w (cleared_at w s p q (slab c b)) (found_outcome w s P (class_found c p q)) (found_slice w s P (class_found c p q)) (free_at m p q (slab c b))
  unfolding class_found offset_found sized_found start_found past_found chunk_outcome chunk_slice pick cleared_at free_at starts_chunk refuse not_taken not_a_start
  chunk_does p q c b h l e = go (eq? (q % chunk c) 0) (lt? (q / chunk c) (own c)) (bool? (b (q / chunk c)))
    where
      c8 : c ≤ 8
      c8 = F.class p c b e

      i : ℕ
      i = q / chunk c

      few : i < chunks c
      few = F.index c q c8 l

      small : i % 65536 ≡ i
      small = let x : i < chunks c = few in let y : chunks c ≤ 512 = F.few-chunks c c8 in omega arith

      narrow : i % 512 ≡ i
      narrow = let x : i < chunks c = few in let y : chunks c ≤ 512 = F.few-chunks c c8 in omega arith

      go : (q % chunk c ≡ 0) ⊎ (q % chunk c ≢ 0) → (i < own c) ⊎ (own c ≤ i) → (b i ≡ true) ⊎ (b i ≡ false) →
          Does w (cleared_at w s p q (slab c b)) (found_outcome w s P (class_found c p q)) (found_slice w s P (class_found c p q)) (free_at m p q (slab c b))
      go (inr d) x y = rw (le-leb c 8 c8, ne_eqb (q % chunk c) 0 d) (record { answer = refl; slice = sym F.same })
      go (inl d) (inl x) y =
          rw (le-leb c 8 c8, eq-eqb (q % chunk c) 0 d, small, lt-ltb i (own c) x, lt-leb (own c) i x) (record { answer = refl; slice = sym F.same })
      go (inl d) (inr x) (inl y) =
          rw (le-leb c 8 c8, eq-eqb (q % chunk c) 0 d, small, le-ltb i (own c) x, le-leb (own c) i x, narrow, F.mark p c i b h e few, y)
          (record { answer = refl; slice = F.chunk p c i b e x few y })
      go (inl d) (inr x) (inr y) =
          rw (le-leb c 8 c8, eq-eqb (q % chunk c) 0 d, small, le-ltb i (own c) x, le-leb (own c) i x, narrow, F.mark p c i b h e few, y)
          (record { answer = refl; slice = sym F.same })

  page_does : (p q : ℕ) → p < P → q < 4096 → (x : Page) → m.page p ≡ x →
      Does w (cleared_at w s p q x) (found_outcome w s P (kind_found p q (page_links m.runs m.lists p x))) (found_slice w s P (kind_found p q (page_links m.runs m.lists p x))) (free_at m p q x)
  unfolding kind_found run_found pick cleared_at free_at refuse outside not_taken not_a_start free_links
  page_does p q h l idle e = go (eq? (starts_at p m.runs) 0)
    where
      go : (starts_at p m.runs ≡ 0) ⊎ (starts_at p m.runs ≢ 0) →
          Does w s (found_outcome w s P (kind_found p q (free_links m.runs p))) (found_slice w s P (kind_found p q (free_links m.runs p))) (free_at m p q idle)
      go (inl z) = rw (eq-eqb (starts_at p m.runs) 0 z) (record { answer = refl; slice = sym F.same })
      go (inr z) = rw (ne_eqb (starts_at p m.runs) 0 z) (record { answer = refl; slice = sym F.same })
  page_does p q h l (slab c b) e = chunk_does p q c b h l e
  page_does p q h l (taken n) e = go (eq? q 0)
    where
      go : (q ≡ 0) ⊎ (q ≢ 0) → Does w s (found_outcome w s P (kind_found p q (links 3 0 n no_page no_page))) (found_slice w s P (kind_found p q (links 3 0 n no_page no_page))) (free_at m p q (taken n))
      go (inl z) = rw (eq-eqb q 0 z) (record { answer = refl; slice = F.run p n e })
      go (inr z) = rw (ne_eqb q 0 z) (record { answer = refl; slice = sym F.same })
  page_does p q h l inside e = record { answer = refl; slice = sym F.same }
  page_does p q h l edge e = absurd (F.ends p h e)

  pub free_does : (off : ℕ) → Does w (cleared_at w s (off / 4096) (off % 4096) (m.page (off / 4096))) (free_outcome w s P off) (free_slice w s P off) (free m off)
  unfolding free_outcome free_slice located page_found free pick
  free_does off = go (lt? (off / 4096) P)
    where
      go : (off / 4096 < P) ⊎ (P ≤ off / 4096) →
          Does w (cleared_at w s (off / 4096) (off % 4096) (m.page (off / 4096))) (free_outcome w s P off) (free_slice w s P off) (free m off)
      go (inl h) =
          let z : off / 4096 % 65536 ≡ off / 4096 = omega (arith, F.few) in
          rw (lt-leb P (off / 4096) h, z, F.links (off / 4096) h) (page_does (off / 4096) (off % 4096) h (omega arith) (m.page (off / 4096)) refl)
      go (inr h) = rw (le-leb P (off / 4096) h, F.past (off / 4096) h) (past_end_lem (off / 4096) (off % 4096))
        where
          past_end_lem : (p q : ℕ) → Does w (cleared_at w s p q edge) (refused Outside) s (free_at m p q edge)
          past_end_lem p q = unfold cleared_at free_at refuse outside in record { answer = refl; slice = sym F.same }
