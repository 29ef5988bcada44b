-- The laws of `specs/Claim.antt`, proved.
use mathlib.Core.Path.{◌≡◌, refl, sym, ap, ◌∙◌, subst}
use mathlib.Core.Logic.{◌↔◌}
use mathlib.Core.Bool.{Bool, true, false}
use mathlib.Core.List.{List}
use Prim.Native.Nat.{ℕ, suc, ◌+◌, ◌*◌, ◌/◌, ◌≤◌, ◌<◌}
use native.Mathlib.Omega.{arith}
use lib.ListN.{length}
use Rattle.image.specs.Image.{with_peaks, Same}
use Rattle.base.specs.Tests.{pick}
use Rattle.base.proofs.Tests.{both_true}
use Rattle.base.proofs.AllBelow.{pick_yes, pick-both, pick_same}
use Rattle.words.specs.Word.{Bytes}
use Rattle.records.specs.Layout.{no_page, page_count}
use Rattle.records.specs.declared.ClassRecord.{ClassRecord}
use Rattle.records.specs.Class.{class_at, peak_at}
use Rattle.model.specs.State.{State}
use Rattle.model.specs.View.{used_of}
use Rattle.model.specs.Calls.{Call, fresh, step}
use Rattle.model.proofs.Fresh.{fresh-well}
use Rattle.model.proofs.Steps.{step_kept}
use Rattle.image.proofs.Paint.{paint_ext}
use Rattle.image.proofs.Peaks.{length-peaks, spare-shown}
use Rattle.format.specs.Format.{shortest, too_long, formatted}
use Rattle.rules.specs.Fields.{Fields}
use Rattle.rules.specs.Read.{read_fields}
use Rattle.rules.specs.Rules.{rule6}
use Rattle.rules.specs.Drawn.{state_image, state_fields}
use Rattle.rules.specs.Bytes.{pages_in, image_of, fields_of, rule1, peaks_fit, counts_and_peaks, broken_rule, read}
use Rattle.rules.specs.Agree.{Agree, Holds}
use Rattle.rules.proofs.Agree.{agree_rule2, agree_rule3, agree_rule4, agree_rule5, agree_rule6, agree_read}
use Rattle.rules.proofs.Rule2.{rule2-says}
use Rattle.rules.proofs.Rules.{rule6-says}
use Rattle.rules.proofs.Peaks.{peaks_iff}
use Rattle.rules.proofs.Fits.{state-fits}
use Rattle.rules.proofs.Well.{fields_well}
use Rattle.rules.proofs.Holds.{state-holds, state-read}
use Rattle.rules.proofs.Drawn.{fields_drawn}
use Rattle.drawing.specs.Draw.{draw, larger, raised}
use Rattle.drawing.specs.Noise.{SameRecords}
use Rattle.drawing.specs.Claim.{Fitting, Peaked, Laws, Claims}
use Rattle.rules.proofs.Rule1.{rule1-says}
use Rattle.drawing.proofs.Records.{paint-back}
use Rattle.drawing.proofs.Encoding.{fields_bounds, mapped-read}
use Rattle.drawing.proofs.Drawn.{length_drawn, drawn_kept, pages_drawn, drawn_keeps, rule1_drawn, drawn_shows}
use Rattle.drawing.proofs.Noise.{pages_same, fields_same, rule1_same, peaks_same}
use Rattle.drawing.proofs.Over.{draw_over, draw-again}
use Rattle.drawing.proofs.Peaks.{peak_drawn, spare_drawn, peaks-keep, raised-length as raise-length, raised-kept as raise-kept, raised-bytes as raise-bytes, raised_peak as raise-peak, raised_peaked as raise-peaked, raised_same as raise-same}
use Rattle.drawing.proofs.Format.{fresh-used, formatted_drawn}

-- ---- the first rule that does not hold

passes : (t : Bool) (x k : ℕ) → pick t x (suc k) ≡ 0 → (t ≡ true) × (x ≡ 0)
unfolding pick
passes true x k e = (refl, e)
passes false x k e = absurd (omega arith)

counts_hold : (w : ℕ) (s : List ℕ) → counts_and_peaks w s ≡ true → (rule6 (fields_of w s) (pages_in w s) ≡ true) × (peaks_fit w s ≡ true)
unfolding counts_and_peaks
counts_hold w s e = both_true _ _ e

pub none-broken : (w : ℕ) (s : List ℕ) → broken_rule w s ≡ 0 → (rule1 w s ≡ true) × Holds (fields_of w s) (pages_in w s) × (peaks_fit w s ≡ true)
unfolding broken_rule
none-broken w s e =
    let a = passes _ _ 0 e in
    let b = passes _ _ 1 a.1 in
    let c = passes _ _ 2 b.1 in
    let d = passes _ _ 3 c.1 in
    let f = passes _ _ 4 d.1 in
    let g = passes _ _ 5 f.1 in
    let h = counts_hold w s g.0 in
    (a.0, record { two = b.0; three = c.0; four = d.0; five = f.0; six = h.0 }, h.1)

all_hold : (w : ℕ) (s : List ℕ) → rule1 w s ≡ true → Holds (fields_of w s) (pages_in w s) → peaks_fit w s ≡ true → broken_rule w s ≡ 0
unfolding broken_rule counts_and_peaks
all_hold w s e H p =
    pick_yes _ _ _ e ∙ pick_yes _ _ _ H.two ∙ pick_yes _ _ _ H.three ∙ pick_yes _ _ _ H.four ∙ pick_yes _ _ _ H.five
    ∙ pick_yes _ _ _ (pick-both _ _ H.six p)

agree_holds : {n : ℕ} {v u : Fields} → n ≤ no_page → Agree n v u → Holds u n → Holds v n
agree_holds few A H = record {
  two = agree_rule2 few A ∙ H.two;
  three = agree_rule3 few A ∙ H.three;
  four = agree_rule4 few A ∙ H.four;
  five = agree_rule5 few A ∙ H.five;
  six = agree_rule6 few A ∙ H.six;
}

module _ (w : ℕ) (wide : 2 ≤ w) (narrow : w ≤ 255) (s : List ℕ) (B : Bytes s) where
  -- ---- sound bytes

  some_pages : rule1 w s ≡ true → 1 ≤ pages_in w s
  some_pages e = omega (arith, (rule1-says w s e).some)

  few-pages : rule1 w s ≡ true → pages_in w s ≤ no_page
  few-pages e = omega (arith, (rule1-says w s e).few)

  sound-fits : broken_rule w s ≡ 0 → Fitting w s (read w s)
  sound-fits e =
      let (one, H, p) = none-broken w s e in
      unfold read read_fields in
      record { well = fields_well (some_pages one) (few-pages one) H (fields_bounds w s B); size = refl; few = (rule1-says w s one).few }

  sound_peaked : broken_rule w s ≡ 0 → Peaked w s (read w s)
  unfolding read
  sound_peaked e =
      let (one, H, p) = none-broken w s e in
      let R = (peaks_iff w s).0 p in
      record {
        high = λ deep c h. omega (arith, R.high deep c h, used-read c h H.six);
        spare = R.spare;
      }
    where
      used-read : (c : ℕ) → c < 9 → rule6 (fields_of w s) (pages_in w s) ≡ true → (class_at w s c).used ≡ used_of (read_fields (fields_of w s) (pages_in w s)) c
      used-read c h e = unfold fields_of image_of in ((rule6-says (fields_of w s) (pages_in w s) e).1 c h).0

  sound_drawn : broken_rule w s ≡ 0 → draw w s (read w s) ≡ s
  unfolding draw read read_fields
  sound_drawn e =
      let (one, H, p) = none-broken w s e in
      rw (mapped-read w s B)
      (sym (paint_ext w (pages_in w s) (image_of w s) (state_image (read w s)) s (image one H))
      ∙ paint-back w s B (rule1-says w s one) (λ p h. unfold fields_of in (rule2-says (fields_of w s) (pages_in w s) H.two).links.spare p h))
    where
      image : rule1 w s ≡ true → Holds (fields_of w s) (pages_in w s) → Same (pages_in w s) (image_of w s) (state_image (read w s))
      image one H = unfold state_fields fields_of in (fields_drawn (some_pages one) (few-pages one) H (fields_bounds w s B)).image_same

  -- ---- drawings

  module _ (m : State) (F : Fitting w s m) where
    few : m.size ≤ no_page
    few = omega (arith, F.few)

    small : m.size ≤ 4096
    small = omega (arith, F.few)

    shows : Agree m.size (fields_of w (draw w s m)) (state_fields m)
    shows = drawn_shows w wide s m F.size narrow F.well small B

    holds : Holds (fields_of w (draw w s m)) m.size
    holds = agree_holds few shows (state-holds F.well few)

    drawn_bytes : Bytes (draw w s m)
    drawn_bytes = drawn_keeps w wide s m F.size narrow F.well small B

    pub used_drawn : (c : ℕ) → c < 9 → (class_at w (draw w s m) c).used ≡ used_of m c
    unfolding fields_of image_of state_fields state_image
    used_drawn c h = ap (λ (r : ClassRecord). r.used) (shows.image_same.class c h)

    drawn_sound : Peaked w s m → broken_rule w (draw w s m) ≡ 0
    drawn_sound Q =
        all_hold w (draw w s m) (rule1_drawn w wide s m F.size narrow F.well small F.few)
        (rw (pages_drawn w wide s m F.size) holds)
        ((peaks_iff w (draw w s m)).1 (record {
          high = λ deep c h. rw (used_drawn c h, peak_drawn w deep s m c h) (Q.high deep c h);
          spare = λ deep c h. rw (spare_drawn w deep s m c h) (Q.spare deep c h);
        }))

    room : 1 + 9 * w ≤ length s / 8
    room = omega (arith, F.size, F.well.some-page)

    used-small : (c : ℕ) → c < 9 → used_of m c < 16777216
    unfolding state_image
    used-small c h = ((state-fits F.well small).class c h).used

    pub peak_raised : 2 < w → (c : ℕ) → c < 9 → peak_at w (raised w s m) c ≡ larger (peak_at w s c) (used_of m c)
    peak_raised = raise-peak w s m room used-small

    raised_peaked : Peaked w (raised w s m) m
    raised_peaked = raise-peaked w s m room used-small

    drawn_read : read w (draw w s m) ≡ m
    unfolding read
    drawn_read =
        rw (pages_drawn w wide s m F.size) (agree_read few shows holds.two holds.three holds.four ∙ state-read F.well few)

  sound_iff : (broken_rule w s ≡ 0) ↔ ((m : State) × Fitting w s m × Peaked w s m × (draw w s m ≡ s))
  sound_iff = (λ e. (read w s, sound-fits e, sound_peaked e, sound_drawn e), λ (m, F, Q, e). ap (broken_rule w) (sym e) ∙ drawn_sound m F Q)

  -- ---- callers' bytes

  module _ (t : List ℕ) (S : SameRecords w s t) where
    noise_rule : broken_rule w s ≡ broken_rule w t
    unfolding broken_rule
    noise_rule =
        let A = fields_same w wide s t S in
        pick_same _ _ (rule1_same w wide s t S)
        (λ e.
        let few = few-pages e in
        rw (
          ← pages_same w wide s t S,
          agree_rule2 few A,
          agree_rule3 few A,
          agree_rule4 few A,
          agree_rule5 few A,
          counts_same e few,
        ))
        (λ e. refl)
      where
        counts_same : rule1 w s ≡ true → pages_in w s ≤ no_page → counts_and_peaks w s ≡ counts_and_peaks w t
        counts_same e few =
            unfold counts_and_peaks in rw (agree_rule6 few (fields_same w wide s t S), peaks_same w wide s t S, pages_same w wide s t S)

    noise_read : broken_rule w s ≡ 0 → read w s ≡ read w t
    unfolding read
    noise_read e =
        let (one, H, p) = none-broken w s e in
        agree_read (few-pages one) (fields_same w wide s t S) H.two H.three H.four
        ∙ ap (read_fields (fields_of w t)) (pages_same w wide s t S)

  -- ---- calls

  fresh-fits : shortest w ≤ length s → length s < too_long w → Fitting w s (fresh (pages_in w s))
  fresh-fits some most =
      record { well = fresh-well (pages_in w s) (omega arith); size = unfold fresh in refl; few = unfold fresh in omega arith }

  next_fits : (m : State) → Fitting w s m → (call : Call) → Fitting w s (step m call).after
  next_fits m F call =
      let K = step_kept m F.well call in
      record { well = K.well; size = K.size ∙ F.size; few = omega (arith, K.size, F.few) }

-- ---- format, and all of them

module _ (w : ℕ) (wide : 2 ≤ w) (narrow : w ≤ 255) (s : List ℕ) (B : Bytes s) where
  -- format draws over bytes with peaks of 0
  module _ (some : shortest w ≤ length s) (most : length s < too_long w) where
    abbrev u : List ℕ
    u = with_peaks w (λ c. 0) s

    over_bytes : Bytes u
    over_bytes = peaks-keep w (λ c. 0) s B

    over_fits : Fitting w u (fresh (pages_in w s))
    over_fits =
        let F = fresh-fits w wide narrow s B some most in
        record { well = F.well; size = F.size ∙ ap (page_count w) (sym (length-peaks w (λ c. 0) s)); few = F.few }

    over_peaked : Peaked w u (fresh (pages_in w s))
    over_peaked = record {
      high = λ deep c h. rw (fresh-used (pages_in w s) c) (omega arith);
      spare = λ deep c h. spare-shown w (λ d. 0) s deep (omega arith) c h;
    }

    format_length : length (formatted w s) ≡ length s
    format_length =
        ap length (formatted_drawn w s some most) ∙ length_drawn w wide u (fresh (pages_in w s)) ∙ length-peaks w (λ c. 0) s

    format_bytes : Bytes (formatted w s)
    format_bytes = subst Bytes (sym (formatted_drawn w s some most)) (drawn_bytes w wide narrow u over_bytes (fresh (pages_in w s)) over_fits)

    format_sound : broken_rule w (formatted w s) ≡ 0
    format_sound =
        ap (broken_rule w) (formatted_drawn w s some most) ∙ drawn_sound w wide narrow u over_bytes (fresh (pages_in w s)) over_fits over_peaked

    format_read : read w (formatted w s) ≡ fresh (pages_in w s)
    format_read = ap (read w) (formatted_drawn w s some most) ∙ drawn_read w wide narrow u over_bytes (fresh (pages_in w s)) over_fits

  laws : Laws w s
  laws = record {
    sound-fits = sound-fits w wide narrow s B;
    sound_peaked = sound_peaked w wide narrow s B;
    sound_drawn = sound_drawn w wide narrow s B;
    drawn_sound = drawn_sound w wide narrow s B;
    drawn_read = drawn_read w wide narrow s B;
    sound_iff = sound_iff w wide narrow s B;
    drawn_length = length_drawn w wide s;
    drawn_bytes = drawn_bytes w wide narrow s B;
    drawn_kept = drawn_kept w wide s;
    drawn_over = draw_over w wide s;
    drawn_again = draw-again w wide s;
    raised_peaked = raised_peaked w wide narrow s B;
    raised_same = λ m Q. raise-same w s m B Q;
    raised-length = raise-length w s;
    raised-bytes = λ m. raise-bytes w s m B;
    raised-kept = λ m i h. raise-kept w s m (pages_in w s) i h;
    noise_rule = noise_rule w wide narrow s B;
    noise_read = noise_read w wide narrow s B;
    format_drawn = formatted_drawn w s;
    format_length = format_length;
    format_bytes = format_bytes;
    format_sound = format_sound;
    format_read = format_read;
    fresh-fits = fresh-fits w wide narrow s B;
    next_fits = next_fits w wide narrow s B;
  }

pub claims : Claims
claims = laws
