-- Which peaks a call raises in the bytes of a sound pool: that of the chunk's class alone.
use mathlib.Core.Path.{◌≡◌, refl, sym, ap, ◌∙◌, subst}
use mathlib.Core.Logic.{◌⊎◌, inl, inr, ◌≢◌}
use mathlib.Core.Bool.{Bool, true, false, cond}
use mathlib.Core.List.{List}
use Prim.Native.Nat.{ℕ, ◌+◌, ◌*◌, ◌/◌, ◌%◌, ◌≤◌, ◌<◌}
use native.Mathlib.Omega.{arith}
use lib.ListN.{length, get_or}
use borrow.Author.Tests.{lt-ltb, le-ltb}
use Rattle.base.specs.Tests.{pick}
use Rattle.base.specs.Functions.{upd}
use Rattle.base.proofs.Cases.{eq?, lt?, never}
use Rattle.words.specs.Word.{Bytes, word}
use Rattle.words.proofs.Laws.{words, here?, word_in, word_out}
use Rattle.records.specs.Layout.{peak_place}
use Rattle.records.specs.Class.{pack_peak, peak_at, peak_spare, with_peak}
use Rattle.maps.specs.Bitmap.{with_mark}
use Rattle.maps.proofs.Marks.{with_mark-outside}
use Rattle.image.proofs.Places.{class-below}
use Rattle.image.proofs.Peaks.{no-peaks}
use Rattle.model.specs.Classes.{chunk, has_taken, starts_chunk, Need, chunk_of, pages, need_of}
use Rattle.model.specs.State.{Page, idle, slab, taken, inside, edge, State}
use Rattle.model.specs.Calls.{Call, Alloc, Free, alloc_for, alloc, step}
use Rattle.model.specs.View.{used_of}
use Rattle.model.proofs.Used.{used-alloc, used-free}
use Rattle.rules.specs.Bytes.{pages_in, map_base, broken_rule, read}
use Rattle.drawing.specs.Draw.{draw, raised}
use Rattle.drawing.specs.Claim.{Fitting, Peaked, Laws}
use Rattle.drawing.proofs.Peaks.{peak_drawn, drawn_peak, raised_one}
use Rattle.drawing.proofs.Laws.{used_drawn, claims as laws-of}
use Rattle.class_peaks.specs.Mirror.{lifted_to, peak_lifted, peak_raised}
use Rattle.demands.specs.Calls.{cleared_at, cleared, redrawn}
use Rattle.demands.proofs.Calls.{under_length, under_bytes, level_drawn}

-- ---- a mark that is cleared lies past the class records

module _ (w : ℕ) (s : List ℕ) where
  base_high : (P p c : ℕ) → 8 * (1 + 9 * w) ≤ map_base w P p c
  unfolding map_base pick
  base_high P p c = go (lt? c 3)
    where
      go : (c < 3) ⊎ (3 ≤ c) → 8 * (1 + 9 * w) ≤ map_base w P p c
      go (inl l) = rw (lt-ltb c 3 l) (omega arith)
      go (inr l) = rw (le-ltb c 3 l) (omega arith)

  byte_cleared : (p q : ℕ) (x : Page) (i : ℕ) → i < 8 * (1 + 9 * w) → get_or (cleared_at w s p q x) i 0 ≡ get_or s i 0
  unfolding cleared_at
  byte_cleared p q idle i h = refl
  byte_cleared p q (slab c b) i h = go (starts_chunk c q) (b (q / chunk c)) (has_taken c (upd b (q / chunk c) false))
    where
      go : (t u v : Bool) → get_or (cond t (cond u (cond v s (with_mark s (map_base w (pages_in w s) p c) (q / chunk c) false)) s) s) i 0 ≡ get_or s i 0
      go true true true = refl
      go true true false =
          with_mark-outside s (map_base w (pages_in w s) p c) (q / chunk c) false i (λ e. omega (arith, base_high (pages_in w s) p c))
      go true false v = refl
      go false u v = refl
  byte_cleared p q (taken n) i h = refl
  byte_cleared p q inside i h = refl
  byte_cleared p q edge i h = refl

  bytes-cleared : (call : Call) (i : ℕ) → i < 8 * (1 + 9 * w) → get_or (cleared w s call) i 0 ≡ get_or s i 0
  unfolding cleared
  bytes-cleared (Alloc n) i h = refl
  bytes-cleared (Free off) i h = byte_cleared (off / 4096) (off % 4096) ((read w s).page (off / 4096)) i h

  word-cleared : (call : Call) (k : ℕ) → k < 1 + 9 * w → word (cleared w s call) k ≡ word s k
  word-cleared call k h = go (here? s k)
    where
      same : length (cleared w s call) / 8 ≡ length s / 8
      same = ap (λ (n : ℕ). n / 8) (under_length w s call)

      go : (k < length s / 8) ⊎ (length s / 8 ≤ k) → word (cleared w s call) k ≡ word s k
      go (inl l) =
          word_in (cleared w s call) k (rw same l) ∙ words.reads (cleared w s call) s (8 * k) (λ i a b. bytes-cleared call i (omega arith))
          ∙ sym (word_in s k l)
      go (inr l) = word_out (cleared w s call) k (rw same l) ∙ sym (word_out s k l)

  module _ (call : Call) (deep : 2 < w) (c : ℕ) (h : c < 9) where
    word_kept : word (cleared w s call) (peak_place w c) ≡ word s (peak_place w c)
    word_kept = word-cleared call (peak_place w c) (omega (arith, class-below w (omega arith) c h))

    pub peak_cleared : peak_at w (cleared w s call) c ≡ peak_at w s c
    unfolding peak_at
    peak_cleared = rw word_kept

    pub spare-cleared : peak_spare w (cleared w s call) c ≡ peak_spare w s c
    unfolding peak_spare
    spare-cleared = rw word_kept

-- without a third word, nothing is raised; a peak put into a drawing lies beneath it
module _ (w : ℕ) (s : List ℕ) (n : State) where
  flat : w ≤ 2 → draw w (raised w s n) n ≡ draw w s n
  unfolding raised
  flat l = ap (λ (t : List ℕ). draw w t n) (no-peaks w _ s l)

  beneath : 2 < w → (c : ℕ) → c < 9 → (u : ℕ) → with_peak w (draw w s n) c u ≡ draw w (with_peak w s c u) n
  unfolding with_peak
  beneath deep c h u = drawn_peak w deep s n c h (pack_peak u)

module _ (w : ℕ) (wide : 2 ≤ w) (narrow : w ≤ 255) (s : List ℕ) (B : Bytes s) (sound : broken_rule w s ≡ 0) where
  abbrev m : State
  m = read w s

  abbrev L : Laws w s
  L = laws-of w wide narrow s B

  F : Fitting w s m
  F = L.sound-fits sound

  Q : Peaked w s m
  Q = L.sound_peaked sound

  -- ---- one class has more in use

  module _ (n : State) (K : Fitting w s n) (c : ℕ) (h : c ≤ 8) (few : (d : ℕ) → d ≢ c → used_of n d ≤ used_of m d) where
    pub one_raised : peak_raised w (draw w s n) c ≡ redrawn w s n
    unfolding peak_raised peak_lifted lifted_to redrawn pick
    one_raised = go (lt? 2 w) (lt? (peak_at w s c) (used_of n c))
      where
        levels : used_of n c ≤ peak_at w s c → (d : ℕ) → 2 < w → d < 9 → used_of n d ≤ peak_at w s d
        levels l d deep k = at (eq? d c)
          where
            at : (d ≡ c) ⊎ (d ≢ c) → used_of n d ≤ peak_at w s d
            at (inl e) = rw e l
            at (inr e) = omega (arith, few d e, Q.high deep d k)

        go : (2 < w) ⊎ (w ≤ 2) → (peak_at w s c < used_of n c) ⊎ (used_of n c ≤ peak_at w s c) → peak_raised w (draw w s n) c ≡ redrawn w s n
        go (inr l) x = rw (le-ltb 2 w l) (sym (flat w s n l))
        go (inl deep) (inl l) =
            rw (lt-ltb 2 w deep, peak_drawn w deep s n c (omega arith), used_drawn w wide narrow s B n K c (omega arith), lt-ltb (peak_at w s c) (used_of n c) l)
            (beneath w s n deep c (omega arith) (used_of n c)
            ∙ ap (λ (t : List ℕ). draw w t n) (raised_one w deep s B n c (omega arith) (Q.spare deep) (λ d k e. omega (arith, few d e, Q.high deep d k)) (omega arith)))
        go (inl deep) (inr l) =
            rw (lt-ltb 2 w deep, peak_drawn w deep s n c (omega arith), used_drawn w wide narrow s B n K c (omega arith), le-ltb (peak_at w s c) (used_of n c) l)
            (sym (ap (λ (t : List ℕ). draw w t n) (L.raised_same n (record { high = λ x d k. levels l d x k; spare = Q.spare }))))

  -- ---- calls

  module _ (n : ℕ) where
    N : Fitting w s (step m (Alloc n)).after
    N = L.next_fits m F (Alloc n)

    pub chunk-raised : (c : ℕ) → need_of n ≡ chunk_of c → c ≤ 8 → peak_raised w (draw w s (alloc_for m (chunk_of c)).after) c ≡ redrawn w s (alloc_for m (chunk_of c)).after
    chunk-raised c e h =
        subst (λ (x : Need). peak_raised w (draw w s (alloc_for m x).after) c ≡ redrawn w s (alloc_for m x).after) e
        (unfold step alloc in one_raised (step m (Alloc n)).after N c h (λ d u. used-alloc m F.well d n (λ z. u (same_class d c (sym z ∙ e)))))
      where
        same_class : (d c : ℕ) → ◌≡◌ {A = Need} (chunk_of d) (chunk_of c) → d ≡ c
        same_class d c z = cc

    pub pages-level : (k : ℕ) → need_of n ≡ pages k → draw w s (alloc_for m (pages k)).after ≡ redrawn w s (alloc_for m (pages k)).after
    pages-level k e =
        subst (λ (x : Need). draw w s (alloc_for m x).after ≡ redrawn w s (alloc_for m x).after) e
        (unfold step alloc in sym (level_drawn w wide narrow s B sound (step m (Alloc n)).after (λ d. used-alloc m F.well d n (λ z. unlike d k (sym z ∙ e)))))
      where
        unlike : (d k : ℕ) → ◌≡◌ {A = Need} (chunk_of d) (pages k) → ⊥
        unlike d k z = never (cc)

  pub free-level : (off : ℕ) → draw w (cleared w s (Free off)) (step m (Free off)).after ≡ redrawn w (cleared w s (Free off)) (step m (Free off)).after
  unfolding redrawn
  free-level off =
      sym (ap (λ (t : List ℕ). draw w t (step m (Free off)).after)
      ((laws-of w wide narrow (cleared w s (Free off)) (under_bytes w s B (Free off))).raised_same (step m (Free off)).after (record {
        high = λ deep c h. rw (peak_cleared w s (Free off) deep c h) (omega (arith, used-free m F.well c off, Q.high deep c h));
        spare = λ deep c h. rw (spare-cleared w s (Free off) deep c h) (Q.spare deep c h);
      })))
