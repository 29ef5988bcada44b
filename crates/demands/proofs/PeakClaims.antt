-- The peak of a class over calls.
use mathlib.Core.Path.{◌≡◌, refl, sym, ap, ◌∙◌}
use mathlib.Core.List.{List, [], ◌∷◌}
use Prim.Native.Nat.{ℕ, ◌≤◌, ◌<◌}
use native.Mathlib.Omega.{arith}
use lib.ListN.{length}
use Rattle.words.specs.Word.{Bytes}
use Rattle.records.specs.Class.{class_at, peak_at}
use Rattle.model.specs.State.{State}
use Rattle.model.specs.Calls.{Call, Alloc, Free, fresh, step}
use Rattle.model.specs.View.{used_of}
use Rattle.model.proofs.Used.{used-free}
use Rattle.image.specs.Image.{with_peaks}
use Rattle.image.proofs.Peaks.{peak_shown}
use Rattle.format.specs.Format.{shortest, too_long, formatted}
use Rattle.rules.specs.Bytes.{pages_in, broken_rule, read}
use Rattle.drawing.specs.Draw.{larger, raised}
use Rattle.drawing.proofs.Noise.{peak_kept}
use Rattle.drawing.proofs.Peaks.{larger-left, larger_right, peak_drawn}
use Rattle.drawing.proofs.Laws.{used_drawn, peak_raised, claims as laws-of}
use Rattle.demands.specs.Calls.{cleared, redrawn, after}
use Rattle.demands.specs.Demands.{Turn, Allowed, played}
use Rattle.demands.specs.Peaks.{used_after, most_used, PeakClaims}
use Rattle.demands.proofs.Calls.{under_bytes, drawn_after, after-sound, demand1, C, G, H}
use Rattle.demands.proofs.Peaks.{peak_cleared}

module _ (w : ℕ) (deep : 2 < w) (narrow : w ≤ 255) (c : ℕ) (h : c < 9) where
  wide : 2 ≤ w
  wide = omega arith

  -- ---- one call

  module _ (s : List ℕ) (B : Bytes s) (sound : broken_rule w s ≡ 0) (call : Call) where
    abbrev m : State
    m = read w s

    abbrev n : State
    n = (step m call).after

    -- the bytes under the next state's drawing
    abbrev u : List ℕ
    u = raised w (cleared w s call) n

    used-is : used_after w c s call ≡ used_of n c
    unfolding redrawn
    used-is =
        ap (λ (t : List ℕ). (class_at w t c).used) (drawn_after w wide narrow s B sound call)
        ∙ used_drawn w wide narrow u ((C w wide narrow s B sound call).raised-bytes n) n (G w wide narrow s B sound call) c h

    peak_is : peak_at w (after w s call) c ≡ larger (peak_at w s c) (used_of n c)
    unfolding redrawn
    peak_is =
        ap (λ (t : List ℕ). peak_at w t c) (drawn_after w wide narrow s B sound call)
        ∙ peak_drawn w deep u n c h
        ∙ peak_raised w wide narrow (cleared w s call) (under_bytes w s B call) n (H w wide narrow s B sound call) deep c h
        ∙ ap (λ (p : ℕ). larger p (used_of n c)) (peak_cleared w s call deep c h)

    peak_after : peak_at w (after w s call) c ≡ larger (peak_at w s c) (used_after w c s call)
    peak_after = peak_is ∙ sym (ap (larger (peak_at w s c)) used-is)

  freed_peak : (s : List ℕ) → Bytes s → broken_rule w s ≡ 0 → (off : ℕ) → peak_at w (after w s (Free off)) c ≡ peak_at w s c
  freed_peak s B sound off =
      let L = laws-of w wide narrow s B in
      peak_is s B sound (Free off)
      ∙ larger-left (peak_at w s c) (used_of (step (read w s) (Free off)).after c)
      (omega (arith, used-free (read w s) (L.sound-fits sound).well c off, (L.sound_peaked sound).high deep c h))

  -- ---- a list of turns

  turned : (ts : List Turn) (s : List ℕ) → Bytes s → broken_rule w s ≡ 0 → Allowed w s ts → peak_at w (played w s ts) c ≡ most_used w c (peak_at w s c) ts
  turned [] s B sound A = refl
  turned (t ∷ ts) s B sound ((S, D), A) =
      let e : broken_rule w t.bytes ≡ 0 = sym ((laws-of w wide narrow s B).noise_rule t.bytes S) ∙ sound in
      let p : peak_at w (after w t.bytes t.call) c ≡ larger (peak_at w s c) (used_after w c t.bytes t.call) =
      peak_after t.bytes D e t.call ∙ ap (λ (x : ℕ). larger x (used_after w c t.bytes t.call)) (sym (peak_kept w wide s t.bytes S c h deep)) in
      turned ts (after w t.bytes t.call) ((demand1 w wide narrow t.bytes D).bytes-kept t.call) (after-sound w wide narrow t.bytes D e t.call) A
      ∙ ap (λ (x : ℕ). most_used w c x ts) p

  module _ (s : List ℕ) (B : Bytes s) (some : shortest w ≤ length s) (most : length s < too_long w) where
    format_peak : peak_at w (formatted w s) c ≡ 0
    format_peak =
        ap (λ (t : List ℕ). peak_at w t c) ((laws-of w wide narrow s B).format_drawn some most)
        ∙ peak_drawn w deep (with_peaks w (λ d. 0) s) (fresh (pages_in w s)) c h
        ∙ peak_shown w (λ d. 0) s deep (omega arith) c h (omega arith)

    formatted_turned : (ts : List Turn) → Allowed w (formatted w s) ts → peak_at w (played w (formatted w s) ts) c ≡ most_used w c 0 ts
    formatted_turned ts A =
        let L = laws-of w wide narrow s B in
        turned ts (formatted w s) (L.format_bytes some most) (L.format_sound some most) A ∙ ap (λ (x : ℕ). most_used w c x ts) format_peak

pub peak_claims : PeakClaims
peak_claims w deep narrow s B c h = record {
  lifted = λ e n l. peak_after w deep narrow c h s B e (Alloc n) ∙ larger_right (peak_at w s c) (used_after w c s (Alloc n)) (omega arith);
  stays = λ e n l. peak_after w deep narrow c h s B e (Alloc n) ∙ larger-left (peak_at w s c) (used_after w c s (Alloc n)) l;
  stays-freed = λ e off. freed_peak w deep narrow c h s B e off;
  history = λ e ts A. turned w deep narrow c h ts s B e A;
  from_format = λ some most ts A. formatted_turned w deep narrow c h s B some most ts A;
}
