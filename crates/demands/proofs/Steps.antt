-- The code's steps on the bytes of a sound pool give the answer and the slice that the calls promise.
use mathlib.Core.Path.{◌≡◌, sym, ap, ◌∙◌, subst}
use mathlib.Core.Logic.{◌⊎◌, inl, inr}
use mathlib.Core.Bool.{Bool, true, false, cond}
use mathlib.Core.List.{List}
use Prim.Native.Nat.{ℕ, ◌-◌, ◌/◌, ◌%◌, ◌≤◌, ◌<◌}
use native.Mathlib.Nat.{div-add-mod', mul_comm}
use native.Mathlib.Omega.{arith}
use lib.Dec.{eqb}
use lib.ListN.{length}
use lib.Pow.{pow_mono}
use borrow.Author.Tests.{eqb-true}
use Rattle.base.specs.Functions.{upd}
use Rattle.base.proofs.Cases.{bool?}
use Rattle.base.proofs.AllBelow.{pick_no}
use Rattle.words.specs.Word.{Bytes}
use Rattle.records.specs.Layout.{page_count}
use Rattle.answers.specs.Outcome.{Outcome, refused}
use Rattle.answers.specs.declared.Refusal.TheVariants.{NotSound}
use Rattle.maps.specs.Bitmap.{mark, with_mark}
use Rattle.maps.specs.Mirror.{lowest_clear}
use Rattle.model.specs.Classes.{chunk, chunks, own, lowest, has_taken}
use Rattle.model.specs.State.{State, slab, marks_of}
use Rattle.model.specs.Calls.{Call, Alloc, Free, drop_page, free_chunk, step}
use Rattle.model.proofs.Classes.{chunk_index}
use Rattle.rules.specs.Bytes.{pages_in, map_base, broken_rule, read}
use Rattle.drawing.specs.Draw.{draw}
use Rattle.drawing.specs.Claim.{Fitting}
use Rattle.map_count.specs.Mirror.{map_bits}
use Rattle.map_occupancy.proofs.Words.{bit-own}
use Rattle.chunks.specs.Mirror.{chunk_taken, page_cut, chunk_freed}
use Rattle.classes.specs.Mirror.{Whole, chunk_refused}
use Rattle.run_extents.specs.Mirror.{run_taken}
use Rattle.run_neighbours.specs.Mirror.{pages_released}
use Rattle.chunk_laws.specs.Claim.{Laws}
use Rattle.chunk_laws.proofs.Laws.{claims as chunk-laws}
use Rattle.run_laws.proofs.Drawn.{run_taken_lem, run-released}
use Rattle.alloc_sound.specs.Mirror.{lowest_on, alloc_outcome, alloc_slice}
use Rattle.free_sound.specs.Mirror.{marked, free_outcome, free_slice}
use Rattle.demands.specs.Calls.{answered, cleared, after}
use Rattle.demands.proofs.Calls.{sound-answer, drawn_after, back_drawn}
use Rattle.demands.proofs.Peaks.{chunk-raised, pages-level, free-level}
use Rattle.demands.proofs.Allocs.{AllocFacts, alloc_does}
use Rattle.demands.proofs.Frees.{FreeFacts, free_does}
use Rattle.demands.proofs.Facts.{fitting, same, few, whole, first-page, links_are, fit_is, past, ends, listed-page, run_found, marks_are, listed-slab}

module _ (w : ℕ) (wide : 2 ≤ w) (narrow : w ≤ 255) (s : List ℕ) (B : Bytes s) (sound : broken_rule w s ≡ 0) where
  abbrev m : State
  m = read w s

  F : Fitting w s m
  F = fitting w wide narrow s B sound

  small : m.size ≤ 4096
  small = omega (arith, F.few)

  L : Laws w s m
  L = chunk-laws w wide narrow s B m F.well F.size small

  -- the pool is the drawing of its state
  on : {A : Type 0} (f : List ℕ → ℕ → A) → f s (pages_in w s) ≡ f (draw w s m) m.size
  on f = sym (ap (λ (t : List ℕ). f t (pages_in w s)) (same w wide narrow s B sound)) ∙ sym (ap (f (draw w s m)) F.size)

  alloc-facts : AllocFacts w s (pages_in w s) m
  unfolding lowest_on
  alloc-facts = record {
    same = same w wide narrow s B sound;
    few = few w wide narrow s B sound;
    first = first-page w wide narrow s B sound;
    listed = λ c p rest h e. listed-page w wide narrow s B sound c p rest e;
    fits = λ k h. fit_is w wide narrow s B sound k;
    found = run_found w wide narrow s B sound;
    low = λ c p rest h e.
        on (λ t n. lowest_clear t (map_base w n p c) (map_bits c))
        ∙ L.lowest-found p c (marks_of (m.page p)) rest (listed-slab w wide narrow s B sound c p rest e) e;
    chunk = λ c p rest h e.
        on (λ t n. chunk_taken w t n c p (lowest c (marks_of (m.page p))))
        ∙ L.taken p c (marks_of (m.page p)) rest (listed-slab w wide narrow s B sound c p rest e) e;
    cut = λ c r h e f. on (λ t n. page_cut w t n c r.start) ∙ L.cut c r h e f;
    refuse-chunk = λ c h. on (λ t n. chunk_refused w t c) ∙ L.refused c h;
    peak = chunk-raised w wide narrow s B sound;
    level = pages-level w wide narrow s B sound;
    back = sym (back_drawn w wide narrow s B sound);
    run = λ k r h f. on (λ t n. run_taken w t r.start k) ∙ run_taken_lem w wide narrow F.well small s F.size k h r f;
  }

  free-facts : FreeFacts w s m
  unfolding marked free_chunk
  free-facts = record {
    same = same w wide narrow s B sound;
    few = few w wide narrow s B sound;
    past = past w wide narrow s B sound;
    ends = ends w wide narrow s B sound;
    links = links_are w wide narrow s B sound;
    class = λ p c b e. (rw e at (F.well.table.each p)).in_range;
    index = λ c q h l. chunk_index c h (q / chunk c) (omega (arith, div-add-mod' q (chunk c), mul_comm (chunk c) (q / chunk c)));
    few-chunks = λ c h. unfold chunks in pow_mono {i = 9 - c} {j = 9} (omega arith);
    mark = λ p c i b h e l. ap (mark s (map_base w (pages_in w s) p c)) (bit-own c i l) ∙ marks_are w wide narrow s B sound p c b e i l;
    chunk = chunk_back_lem;
    run = λ p n e. on (λ t k. pages_released w t k p n) ∙ run-released w wide narrow F.well small s F.size p n e;
  }
    where
      chunk_back_lem : (p c i : ℕ) (b : ℕ → Bool) → m.page p ≡ slab c b → own c ≤ i → i < chunks c → b i ≡ true →
          chunk_freed w s (pages_in w s) c p i ≡ draw w (cond (has_taken c (upd b i false)) s (with_mark s (map_base w (pages_in w s) p c) i false)) (free_chunk m p c b i)
      chunk_back_lem p c i b e h l t = go (bool? (has_taken c (upd b i false)))
        where
          go : (has_taken c (upd b i false) ≡ true) ⊎ (has_taken c (upd b i false) ≡ false) →
              chunk_freed w s (pages_in w s) c p i ≡ draw w (cond (has_taken c (upd b i false)) s (with_mark s (map_base w (pages_in w s) p c) i false)) (free_chunk m p c b i)
          go (inl y) = rw y (on (λ x n. chunk_freed w x n c p i) ∙ L.kept p c b i e h l t y)
          go (inr y) =
              rw y
              (on (λ x n. chunk_freed w x n c p i) ∙ L.dropped p c b i e h l t y
              ∙ sym (on (λ x n. draw w (with_mark x (map_base w n p c) i false) (drop_page m p c b))))

  pub alloc_met : (n : ℕ) → (alloc_outcome w s (pages_in w s) n ≡ answered w s (Alloc n)) × (alloc_slice w s (pages_in w s) n ≡ after w s (Alloc n))
  unfolding cleared step
  alloc_met n =
      let D = alloc_does alloc-facts n in
      (D.answer ∙ sym (sound-answer w wide narrow s B sound (Alloc n)), D.slice ∙ sym (drawn_after w wide narrow s B sound (Alloc n)))

  pub free_met : (off : ℕ) → (free_outcome w s (pages_in w s) off ≡ answered w s (Free off)) × (free_slice w s (pages_in w s) off ≡ after w s (Free off))
  unfolding cleared step
  free_met off =
      let D = free_does free-facts off in (
        D.answer ∙ sym (sound-answer w wide narrow s B sound (Free off)),
        D.slice ∙ free-level w wide narrow s B sound off ∙ sym (drawn_after w wide narrow s B sound (Free off)),
      )

-- ---- from what validation answers

module _ (w : ℕ) (s : List ℕ) (t : Bool) (e : t ≡ eqb (broken_rule w s) 0) where
  pub refused-unsound : (call : Call) → t ≡ false → (refused NotSound ≡ answered w s call) × (s ≡ after w s call)
  unfolding answered after
  refused-unsound call n =
      let f : eqb (broken_rule w s) 0 ≡ false = sym e ∙ n in
      (sym (pick_no _ _ _ f), sym (pick_no _ _ _ f))

  module _ (wide : 2 ≤ w) (narrow : w ≤ 255) (B : Bytes s) (n : t ≡ true) (pages : ℕ) (p : pages ≡ page_count w (length s) % 65536) where
    sound : broken_rule w s ≡ 0
    sound = eqb-true _ _ (sym e ∙ n)

    pages_are : pages ≡ pages_in w s
    pages_are = p ∙ omega (arith, few w wide narrow s B sound)

    pub whole-told : Whole w s pages
    whole-told = subst (Whole w s) (sym pages_are) (whole w wide narrow s B sound)

    pub alloc_steps : (size : ℕ) (o : Outcome) (u : List ℕ) → o ≡ alloc_outcome w s pages size → u ≡ alloc_slice w s pages size →
        (o ≡ answered w s (Alloc size)) × (u ≡ after w s (Alloc size))
    alloc_steps size o u a b =
        let M = alloc_met w wide narrow s B sound size in
        (a ∙ ap (λ (k : ℕ). alloc_outcome w s k size) pages_are ∙ M.0, b ∙ ap (λ (k : ℕ). alloc_slice w s k size) pages_are ∙ M.1)

    pub free_steps : (off : ℕ) (o : Outcome) (u : List ℕ) → o ≡ free_outcome w s pages off → u ≡ free_slice w s pages off →
        (o ≡ answered w s (Free off)) × (u ≡ after w s (Free off))
    free_steps off o u a b =
        let M = free_met w wide narrow s B sound off in
        (a ∙ ap (λ (k : ℕ). free_outcome w s k off) pages_are ∙ M.0, b ∙ ap (λ (k : ℕ). free_slice w s k off) pages_are ∙ M.1)
