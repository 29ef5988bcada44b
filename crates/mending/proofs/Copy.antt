-- The mender's copy: what it is drawn from, and that it is accepted.
use mathlib.Core.Path.{◌≡◌, refl, sym, ap, ◌∙◌}
use mathlib.Core.Logic.{◌⊎◌, inl, inr}
use mathlib.Core.Bool.{true}
use mathlib.Core.List.{List}
use Prim.Native.Nat.{ℕ, zero, suc, ◌≤◌, ◌<◌}
use native.Mathlib.Omega.{arith}
use lib.ListN.{length, get_or}
use borrow.Author.Tests.{lt-ltb}
use Rattle.base.proofs.Cases.{lt?}
use Rattle.base.proofs.AllBelow.{pick_yes, each_of}
use Rattle.words.specs.Word.{Bytes, word, word_at, set_word}
use Rattle.words.proofs.Laws.{word_in}
use Rattle.records.specs.Layout.{peak_place, pages_from, page_count}
use Rattle.records.specs.Header.{unpack_header, header_at}
use Rattle.records.specs.Class.{pack_peak, class_at, peak_at}
use Rattle.model.specs.State.{Tally, State}
use Rattle.model.specs.View.{used_of}
use Rattle.model.specs.WellFormed.{TableOk}
use Rattle.image.specs.Image.{write_at, with_peaks}
use Rattle.image.proofs.Paint.{byte_shown}
use Rattle.image.proofs.Peaks.{no-peaks, peaks_written_lem, byte_peaks}
use Rattle.rules.specs.Read.{tally_in, tally_of, read_fields}
use Rattle.rules.specs.Rules.{shape, rule5}
use Rattle.rules.specs.Drawn.{state_image}
use Rattle.rules.specs.Bytes.{pages_in, image_of, fields_of, rule1, broken_rule, read}
use Rattle.rules.specs.Plain.{Rule1, Shape}
use Rattle.rules.proofs.Rule1.{rule1-says}
use Rattle.rules.proofs.Shape.{shape-says}
use Rattle.rules.proofs.Well.{table_ok, tally_ok}
use Rattle.drawing.specs.Draw.{in_map, mapped_byte, mapped, draw, larger, raised}
use Rattle.drawing.specs.Claim.{Fitting, Laws}
use Rattle.drawing.proofs.Encoding.{fields_bounds, mapped-read}
use Rattle.drawing.proofs.Peaks.{drawn_peak, peak_drawn}
use Rattle.drawing.proofs.Laws.{none-broken, peak_raised, claims}
use Rattle.demands.specs.Calls.{redrawn}
use Rattle.mending.specs.Remade.{remade}
use Rattle.mending.specs.Mending.{shaped, table, SamePages, Accepted, repaired, mended_copy}
use Rattle.mending.specs.Claim.{Copied}
use Rattle.mending.specs.Laws.{Anew}
use Rattle.mending.proofs.Remade.{made_anew}

-- the edition is the first byte
pub edition_byte : (s : List ℕ) → Bytes s → 8 ≤ length s → (header_at s).edition ≡ get_or s 0 0
unfolding header_at unpack_header
edition_byte s B h =
    let e : word s 0 ≡ word_at s 0 = word_in s 0 (omega arith) in
    omega (arith, B 0, B 1, B 2, B 3, B 4, B 5, B 6, B 7)

-- size and pages alone say what maps are drawn
mapped-table : (w : ℕ) (m n : State) (s : List ℕ) → m.size ≡ n.size → m.page ≡ n.page → mapped w m s ≡ mapped w n s
unfolding mapped mapped_byte in_map
mapped-table w m n s a b = λ i. mapped w (record { size = a i; page = b i; runs = m.runs; lists = m.lists; tally = m.tally }) s

-- peaks beneath a drawing are peaks over it
words_over : (w : ℕ) (f : ℕ → ℕ) (s : List ℕ) (m : State) → 2 < w → (k : ℕ) → k ≤ 9 → write_at (peak_place w) k f (draw w s m) ≡ draw w (write_at (peak_place w) k f s) m
unfolding write_at
words_over w f s m deep zero h = refl
words_over w f s m deep (suc k) h =
    ap (λ (t : List ℕ). set_word t (peak_place w k) (f k)) (words_over w f s m deep k (omega arith))
    ∙ drawn_peak w deep (write_at (peak_place w) k f s) m k (omega arith) (f k)

pub draw-peaks : (w : ℕ) (f : ℕ → ℕ) (s : List ℕ) (m : State) → draw w (with_peaks w f s) m ≡ with_peaks w f (draw w s m)
draw-peaks w f s m = go (lt? 2 w)
  where
    go : (2 < w) ⊎ (w ≤ 2) → draw w (with_peaks w f s) m ≡ with_peaks w f (draw w s m)
    go (inl l) =
        ap (λ (t : List ℕ). draw w t m) (peaks_written_lem w f s l) ∙ sym (words_over w (λ c. pack_peak (f c)) s m l 9 (omega arith))
        ∙ sym (peaks_written_lem w f (draw w s m) l)
    go (inr l) = ap (λ (t : List ℕ). draw w t m) (no-peaks w f s l) ∙ sym (no-peaks w f (draw w s m) l)

module _ (w : ℕ) (wide : 2 ≤ w) (narrow : w ≤ 255) (s : List ℕ) (B : Bytes s) (ok : shaped w s ≡ true) where
  parts : (rule1 w s ≡ true) × (shape (fields_of w s) (pages_in w s) ≡ true) × (rule5 (fields_of w s) (pages_in w s) ≡ true)
  unfolding shaped
  parts = let (a, (b, (c, _))) = each_of _ ok in (a, b, c)

  one : Rule1 w s
  one = rule1-says w s parts.0

  pub some-page : 1 ≤ pages_in w s
  some-page = omega (arith, one.some)

  pub shape_is : Shape (fields_of w s) (pages_in w s)
  shape_is = shape-says (fields_of w s) (pages_in w s) parts.1

  pub table_is : TableOk (pages_in w s) (table w s)
  unfolding table
  table_is = table_ok (fields_of w s) (pages_in w s) (fields_bounds w s B) shape_is parts.2

  anew : Anew (pages_in w s) (table w s) (tally_of (fields_of w s))
  anew =
      made_anew (pages_in w s) (table w s) (tally_of (fields_of w s)) some-page table_is
      (tally_ok (fields_of w s) (pages_in w s) (fields_bounds w s B) shape_is)

  pub repaired-fits : Fitting w s (repaired w s)
  unfolding repaired remade
  repaired-fits = record {
    well = anew.well;
    size = refl;
    few = one.few;
  }

  -- ---- the bytes that it is drawn over

  abbrev under : List ℕ
  under = raised w s (repaired w s)

  L : Laws w s
  L = claims w wide narrow s B

  under_bytes : Bytes under
  under_bytes = L.raised-bytes (repaired w s)

  under_fits : Fitting w under (repaired w s)
  under_fits = record {
    well = repaired-fits.well;
    size = repaired-fits.size ∙ ap (page_count w) (sym (L.raised-length (repaired w s)));
    few = repaired-fits.few;
  }

  U : Laws w under
  U = claims w wide narrow under under_bytes

  pub copy_sound : broken_rule w (mended_copy w s) ≡ 0
  unfolding mended_copy redrawn
  copy_sound = U.drawn_sound (repaired w s) under_fits (L.raised_peaked (repaired w s) repaired-fits)

  pub copy_read : read w (mended_copy w s) ≡ repaired w s
  unfolding mended_copy redrawn
  copy_read = U.drawn_read (repaired w s) under_fits

  pub copy_bytes : Bytes (mended_copy w s)
  unfolding mended_copy redrawn
  copy_bytes = U.drawn_bytes (repaired w s) under_fits

  copy_length : length (mended_copy w s) ≡ length s
  unfolding mended_copy redrawn
  copy_length = U.drawn_length (repaired w s) ∙ L.raised-length (repaired w s)

  -- the maps in pages are written as they stand
  pub maps_stay : mapped w (repaired w s) s ≡ s
  maps_stay = mapped-table w (repaired w s) (read w s) s (unfold repaired remade read read_fields in refl) (unfold repaired remade table read read_fields in refl)
      ∙ mapped-read w s B

  drawn_pages : (i : ℕ) → pages_from w (pages_in w s) ≤ i → get_or (draw w s (repaired w s)) i 0 ≡ get_or s i 0
  unfolding draw
  drawn_pages i h =
      let z : (repaired w s).size ≡ pages_in w s = repaired-fits.size in
      byte_shown w (repaired w s).size wide (state_image (repaired w s)) (mapped w (repaired w s) s) i (omega arith)
      ∙ ap (λ (x : List ℕ). get_or x i 0) maps_stay

  copy_pages : SamePages w s (mended_copy w s)
  unfolding SamePages mended_copy redrawn raised
  copy_pages i h =
      let f : ℕ → ℕ = λ c. larger (peak_at w s c) (used_of (repaired w s) c) in
      sym
      (ap (λ (x : List ℕ). get_or x i 0) (draw-peaks w f s (repaired w s))
      ∙ byte_peaks w f (draw w s (repaired w s)) (pages_in w s) i h ∙ drawn_pages i h)

  copy_edition : get_or s 0 0 ≡ get_or (mended_copy w s) 0 0
  copy_edition =
      let two = rule1-says w (mended_copy w s) (none-broken w (mended_copy w s) copy_sound).0 in
      sym (edition_byte s B (omega (arith, one.some))) ∙ one.edition ∙ sym two.edition
      ∙ edition_byte (mended_copy w s) copy_bytes (omega (arith, two.some))

  pub copy_accepted : Accepted w s (mended_copy w s)
  copy_accepted = record {
    lengths = sym copy_length;
    editions = copy_edition;
    good = ok;
    sound = copy_sound;
    blocks = λ e. rw copy_read (unfold repaired remade in (λ l. l, λ l. l));
    pages = copy_pages;
  }

  pub copied : Copied w s
  copied = record {
    read_back = copy_read;
    page = unfold repaired remade in refl;
    runs_rise = unfold repaired in anew.runs_rise;
    lists_rise = unfold repaired in anew.lists_rise;
    accepted = copy_accepted;
    tallies = tallies;
    peaks = peaks;
  }
    where
      tally_in_lem : (u : List ℕ) (c : ℕ) → c < 9 → (read w u).tally c ≡ tally_in (class_at w u c)
      tally_in_lem u c h = unfold read read_fields tally_of fields_of image_of in pick_yes _ _ _ (lt-ltb c 9 h)

      same : (read w s).tally ≡ (repaired w s).tally
      same = unfold read read_fields repaired remade in refl

      tallies : (c : ℕ) → c < 9 → tally_in (class_at w (mended_copy w s) c) ≡ tally_in (class_at w s c)
      tallies c h =
          sym (tally_in_lem (mended_copy w s) c h) ∙ ap (λ (m : State). m.tally c) copy_read ∙ ap (λ (f : ℕ → Tally). f c) (sym same) ∙ tally_in_lem s c h

      peaks : 2 < w → (c : ℕ) → c < 9 → peak_at w (mended_copy w s) c ≡ larger (peak_at w s c) (used_of (repaired w s) c)
      peaks deep c h =
          unfold mended_copy redrawn in
          (peak_drawn w deep under (repaired w s) c h ∙ peak_raised w wide narrow s B (repaired w s) repaired-fits deep c h)
