-- The answer in the order of code is that of the trial.
use Rattle.std.specs.Prelude.{Result, Ok, Err}
use mathlib.Core.Path.{◌≡◌, refl, sym, ap, ◌∙◌}
use mathlib.Core.Logic.{◌⊎◌, inl, inr}
use mathlib.Core.Bool.{Bool, true, false, cond, ◌&&◌, not}
use mathlib.Core.List.{List}
use Prim.Native.Nat.{ℕ, zero, suc, ◌-◌, ◌*◌, ◌/◌, ◌%◌, ◌≤◌, ◌<◌}
use native.Mathlib.Nat.{div-le_self}
use native.Mathlib.Omega.{arith}
use lib.Dec.{eqb, leb, ltb}
use lib.Pow.{pow_mono}
use borrow.Author.Tests.{lt-ltb, le-ltb, le-leb, lt-leb, eq-eqb, ne_eqb, not-true}
use Rattle.base.specs.Tests.{pick, all_below}
use Rattle.base.proofs.Cases.{clash, decided, lt?}
use Rattle.base.proofs.Search.{any_some, any_false}
use Rattle.base.proofs.AllBelow.{all-at, at_all}
use Rattle.records.specs.Page.{links_at}
use Rattle.answers.specs.declared.Refusal.{Refusal}
use Rattle.answers.specs.declared.Refusal.TheVariants.{NotTaken, NotAStart}
use Rattle.maps.specs.Bitmap.{mark}
use Rattle.model.specs.Classes.{chunk, chunks, own, has_taken, starts_chunk}
use Rattle.model.specs.State.{slab, taken, inside}
use Rattle.model.specs.Calls.{freed, no, outside, not_taken, not_a_start}
use Rattle.model.specs.Ruling.{verdict}
use Rattle.model.proofs.Classes.{chunk_start, chunk_index}
use Rattle.rules.specs.Fields.{page_of}
use Rattle.rules.specs.Bytes.{pages_in, map_base, mark_at}
use Rattle.free_all_model.specs.Mirror.{is_first, first_below, tried_at, tried as triedOffset}
use Rattle.free_all_model.proofs.Settled.{TrialOk, first_below_lem}
use Rattle.free_all_trial.specs.Mirror.{shown_page, shown_trial}
use Rattle.free_all_trial.proofs.Changed.{page-is, page-none}
use Rattle.free_all_trial.proofs.Put.{mark-low}
use Rattle.locate.specs.Mirror.{past_found, start_found, sized_found, offset_found, class_found, run_found, kind_found, page_found, located}
use Rattle.free_all_try.specs.Mirror.{held_at, unheld_at, emptied, flagged, first_kind, inner_flagged, kind_released, released, off_start, refused_tried, run_tried, chunk_tried, found_tried, offset_tried, tried_verdict}

pick-cond : (b : Bool) (x y : ℕ) → pick b x y ≡ cond b x y
unfolding pick
pick-cond true x y = refl
pick-cond false x y = refl

-- off a block's start, by whether its page is released
by-release : (b : Bool) → tried_verdict (pick b (Err NotTaken) (Err NotAStart)) ≡ verdict (cond b (no not_taken) (no not_a_start))
unfolding pick not_taken not_a_start
by-release true = refl
by-release false = refl

module _ (w : ℕ) (s : List ℕ) where
  abbrev P : ℕ
  P = pages_in w s

  -- ---- a class page

  -- a mark that a caller holds, in code and in the trial
  held_is : (p c i : ℕ) → i < chunks c → held_at s (map_base w P p c) (own c) i ≡ (leb (own c) i && mark_at w s p c i)
  unfolding held_at pick
  held_is p c i l = go (lt? i (own c))
    where
      go : (i < own c) ⊎ (own c ≤ i) → pick (ltb i (own c)) false (mark s (map_base w P p c) i) ≡ (leb (own c) i && mark_at w s p c i)
      go (inl o) = rw (lt-ltb i (own c) o, lt-leb (own c) i o)
      go (inr o) = rw (le-ltb i (own c) o, le-leb (own c) i o) (sym (mark-low w s p c i l))

  emptied-is : (p c : ℕ) → emptied w s P c p ≡ not (has_taken c (mark_at w s p c))
  unfolding emptied has_taken unheld_at
  emptied-is p c = go (has_taken c (mark_at w s p c)) refl
    where
      go : (b : Bool) → has_taken c (mark_at w s p c) ≡ b → all_below (λ i. not (held_at s (map_base w P p c) (own c) i)) (chunks c) ≡ not b
      go true e =
          let (i, l, t) = any_some (λ i. leb (own c) i && mark_at w s p c i) (chunks c) e in
          decided (all_below (λ i. not (held_at s (map_base w P p c) (own c) i)) (chunks c))
          (λ z. clash (held_is p c i l ∙ t) (not-true (held_at s (map_base w P p c) (own c) i) (all-at (λ i. not (held_at s (map_base w P p c) (own c) i)) (chunks c) z i l)))
      go false e =
          at_all (λ i. not (held_at s (map_base w P p c) (own c) i)) (chunks c)
          (λ i l. rw (held_is p c i l, any_false (λ i. leb (own c) i && mark_at w s p c i) (chunks c) e i l))

  module _ (p c : ℕ) (freed-with : released w s P p ≡ not (has_taken c (mark_at w s p c))) where
    -- off a chunk's start, or at one of the map's own
    off-is : tried_verdict (refused_tried w s P p NotAStart) ≡ verdict (cond (has_taken c (mark_at w s p c)) (no not_a_start) (no not_taken))
    unfolding refused_tried off_start pick not_a_start not_taken
    off-is = rw freed-with (go (has_taken c (mark_at w s p c)))
      where
        go : (b : Bool) → tried_verdict (pick (not b) (Err NotTaken) (Err NotAStart)) ≡ verdict (cond b (no 7) (no 6))
        go true = refl
        go false = refl

    mark-is : (i : ℕ) → i < chunks c → tried_verdict (chunk_tried w s P c p i) ≡ verdict (cond (mark_at w s p c i) (freed (chunk c)) (no not_taken))
    unfolding chunk_tried pick not_taken
    mark-is i l = rw (mark-low w s p c i l) (go (mark s (map_base w P p c) i))
      where
        go : (b : Bool) → tried_verdict (pick b (Ok tt) (Err NotTaken)) ≡ verdict (cond b (freed (chunk c)) (no 6))
        go true = refl
        go false = refl

    class-is : (q : ℕ) → c ≤ 8 → q < 4096 → tried_verdict (found_tried w s P p (class_found c p q)) ≡ verdict (tried_at (shown_trial w s) p q (slab c (mark_at w s p c)))
    unfolding class_found offset_found sized_found start_found past_found tried_at starts_chunk pick
    class-is q low l = go (eqb (q % chunk c) 0) refl (lt? (q / chunk c) (own c))
      where
        few-chunks : chunks c ≤ 512
        few-chunks = unfold chunks in pow_mono {i = 9 - c} {j = 9} (omega arith)

        small_index : q / chunk c % 65536 ≡ q / chunk c
        small_index = omega (arith, div-le_self q (chunk c))

        go : (b : Bool) → eqb (q % chunk c) 0 ≡ b → (q / chunk c < own c) ⊎ (own c ≤ q / chunk c) →
            tried_verdict (found_tried w s P p (class_found c p q)) ≡ verdict (tried_at (shown_trial w s) p q (slab c (mark_at w s p c)))
        go false b o = rw (le-leb c 8 low, b) off-is
        go true b (inl o) = rw (le-leb c 8 low, b, small_index, lt-ltb (q / chunk c) (own c) o, lt-leb (own c) (q / chunk c) o) off-is
        go true b (inr o) =
            let starts : starts_chunk c q ≡ true = rw (b, le-leb (own c) (q / chunk c) o) in
            let (z, _) = chunk_start c q starts in
            let few : q / chunk c < chunks c = chunk_index c low (q / chunk c) (omega arith) in
            let narrow : q / chunk c % 512 ≡ q / chunk c = omega (arith, few-chunks) in
            rw (le-leb c 8 low, b, small_index, le-ltb (q / chunk c) (own c) o, le-leb (own c) (q / chunk c) o, narrow) (mark-is (q / chunk c) few)

  -- ---- a taken run

  flag_is : (p n : ℕ) → shown_page w s p ≡ taken n → flagged w s P p ≡ (shown_trial w s).flag p
  unfolding flagged map_base pick shown_trial
  flag_is p n e = rw e

  run_is : (p n r q : ℕ) → shown_page w s p ≡ taken n → released w s P p ≡ flagged w s P p →
      tried_verdict (found_tried w s P p (run_found p r q)) ≡ verdict (tried_at (shown_trial w s) p q (taken n))
  unfolding run_found run_tried refused_tried off_start tried_at pick not_taken not_a_start
  run_is p n r q e f = go (eqb q 0) refl (sym (flag_is p n e))
    where
      live : (b : Bool) → tried_verdict (pick b (Err NotTaken) (Ok tt)) ≡ verdict (cond b (no 6) (freed (4096 * n)))
      live true = refl
      live false = refl

      go : (z : Bool) → eqb q 0 ≡ z → (shown_trial w s).flag p ≡ flagged w s P p →
          tried_verdict (found_tried w s P p (run_found p r q)) ≡ verdict (tried_at (shown_trial w s) p q (taken n))
      go true k same = rw (k, same) (live (flagged w s P p))
      go false k same = rw (k, same, f) (by-release (flagged w s P p))

  first_test : (k c r : ℕ) (f : ℕ → Bool) → is_first (page_of k c r f) ≡ eqb k 3
  first_test zero c r f = sym (ne_eqb 0 3 (omega arith))
  first_test (suc zero) c r f = sym (ne_eqb 1 3 (omega arith))
  first_test (suc (suc zero)) c r f = sym (ne_eqb 2 3 (omega arith))
  first_test (suc (suc (suc zero))) c r f = sym (eq-eqb 3 3 refl)
  first_test (suc (suc (suc (suc zero)))) c r f = sym (ne_eqb 4 3 (omega arith))
  first_test (suc (suc (suc (suc (suc k))))) c r f = sym (ne_eqb (suc (suc (suc (suc (suc k))))) 3 (omega arith))

  first-is : (j : ℕ) → j ≤ P → first_kind w s j ≡ first_below (shown_page w s) j
  unfolding first_kind first_below pick
  first-is zero h = refl
  first-is (suc j) h =
      let t : is_first (shown_page w s j) ≡ eqb (links_at w s j).kind 3 = ap is_first (page-is w s j (omega arith)) ∙ first_test (links_at w s j).kind (links_at w s j).class (links_at w s j).run (mark_at w s j (links_at w s j).class) in
      rw (t, first-is j (omega arith)) (pick-cond (eqb (links_at w s j).kind 3) j (first_below (shown_page w s) j))

  module _ (ok : TrialOk (shown_page w s)) (kinds : (p : ℕ) → p < P → (links_at w s p).kind ≤ 4) (few : P < 65536) where
    inside_is : (p : ℕ) → p < P → shown_page w s p ≡ inside → inner_flagged w s P p ≡ (shown_trial w s).flag (first_below (shown_page w s) p)
    unfolding inner_flagged shown_trial
    inside_is p h e =
        let (r, n, first, a, u) = ok.owner p e in
        let y : first_below (shown_page w s) p ≡ r = first_below_lem (shown_page w s) r n first p a (λ k b d. ok.inner r n k first b (omega arith)) in
        ap (flagged w s P) (first-is p (omega arith) ∙ y) ∙ flag_is r n first ∙ ap (shown_trial w s).flag (sym y)

    kind-is : (p q : ℕ) → p < P → q < 4096 → tried_verdict (found_tried w s P p (kind_found p q (links_at w s p))) ≡ verdict (tried_at (shown_trial w s) p q (shown_page w s p))
    unfolding kind_found released kind_released refused_tried off_start shown_trial pick tried_at not_taken not_a_start
    kind-is p q h l = go (links_at w s p).kind refl (page-is w s p h)
      where
        go : (k : ℕ) → (links_at w s p).kind ≡ k → shown_page w s p ≡ page_of (links_at w s p).kind (links_at w s p).class (links_at w s p).run (mark_at w s p (links_at w s p).class) →
            tried_verdict (found_tried w s P p (kind_found p q (links_at w s p))) ≡ verdict (tried_at (shown_trial w s) p q (shown_page w s p))
        go zero e x = rw (x, e)
        go (suc zero) e x = rw (x, e)
        go (suc (suc zero)) e x =
            let page : shown_page w s p ≡ slab (links_at w s p).class (mark_at w s p (links_at w s p).class) = x ∙ rw e in
            let freed-with : released w s P p ≡ not (has_taken (links_at w s p).class (mark_at w s p (links_at w s p).class)) = rw e (emptied-is p (links_at w s p).class) in
            rw (page, e) (class-is p (links_at w s p).class freed-with q (ok.in_range p _ _ page) l)
        go (suc (suc (suc zero))) e x =
            let page : shown_page w s p ≡ taken (links_at w s p).run = x ∙ rw e in
            rw (page, e) (run_is p (links_at w s p).run (links_at w s p).run q page (rw e refl))
        go (suc (suc (suc (suc zero)))) e x =
            let page : shown_page w s p ≡ inside = x ∙ rw e in
            let freed-with : released w s P p ≡ inner_flagged w s P p = rw e refl in
            rw (page, e) (rw (freed-with, inside_is p h page) (by-release ((shown_trial w s).flag (first_below (shown_page w s) p))))
        go (suc (suc (suc (suc (suc k))))) e x = absurd (omega (arith, kinds p h))

    pub verdict-is : (off : ℕ) → tried_verdict (offset_tried w s P off) ≡ verdict (triedOffset (shown_trial w s) off)
    unfolding offset_tried located page_found refused_tried triedOffset tried_at shown_trial pick outside
    verdict-is off = go (lt? (off / 4096) P)
      where
        go : (off / 4096 < P) ⊎ (P ≤ off / 4096) → tried_verdict (offset_tried w s P off) ≡ verdict (triedOffset (shown_trial w s) off)
        go (inl h) = let z : off / 4096 % 65536 ≡ off / 4096 = omega (arith, few) in rw (lt-leb P (off / 4096) h, z) (kind-is (off / 4096) (off % 4096) h (omega arith))
        go (inr h) = rw (le-leb P (off / 4096) h, page-none w s (off / 4096) h)
