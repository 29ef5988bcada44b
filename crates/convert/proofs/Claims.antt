-- The claims on convert: the conversion draws the source's state.
use mathlib.Core.Path.{◌≡◌, refl, sym, ap, ◌∙◌, subst}
use mathlib.Core.Logic.{◌⊎◌, inl, inr, ◌≢◌}
use mathlib.Core.Bool.{true}
use mathlib.Core.List.{List}
use Prim.Native.Nat.{ℕ, ◌+◌, ◌*◌, ◌/◌, ◌≤◌, ◌<◌}
use native.Mathlib.Omega.{arith}
use lib.Dec.{eqb}
use lib.ListN.{length, get_or}
use borrow.Author.Tests.{eq-eqb, ne_eqb}
use Rattle.base.proofs.Cases.{clash, lt?}
use Rattle.base.proofs.AllBelow.{pick_yes, pick_no}
use Rattle.words.specs.Word.{Bytes}
use Rattle.records.specs.Layout.{pages_from, page_count}
use Rattle.records.specs.Class.{unpack_class, class_at, peak_at}
use Rattle.answers.specs.Outcome.{Outcome, granted, refused}
use Rattle.answers.specs.declared.Refusal.TheVariants.{NotSound, WrongLength}
use Rattle.copying.specs.Lay.{lay}
use Rattle.copying.proofs.Laws.{length-lay, lay-inside, lay-outside, lay-bytes}
use Rattle.image.specs.Image.{paint, with_peaks, Same}
use Rattle.image.proofs.Paint.{paint_ext, byte_shown}
use Rattle.image.proofs.Peaks.{peak_shown, spare-shown, length-peaks, byte_peaks}
use Rattle.model.specs.State.{Page, State}
use Rattle.model.specs.View.{used_of, shown}
use Rattle.rules.specs.Drawn.{state_image, state_fields}
use Rattle.rules.specs.Read.{read_fields}
use Rattle.rules.specs.Bytes.{pages_in, image_of, fields_of, broken_rule, read}
use Rattle.rules.proofs.Drawn.{fields_drawn}
use Rattle.drawing.specs.Draw.{map_has, map_byte, mapped, draw}
use Rattle.drawing.specs.Claim.{Fitting, Peaked, Laws}
use Rattle.drawing.proofs.Mapped.{mapped-has, mapped-is}
use Rattle.drawing.proofs.Encoding.{fields_bounds, mapped-read}
use Rattle.drawing.proofs.Peaks.{peaks-keep, peak_drawn}
use Rattle.drawing.proofs.Laws.{none-broken, used_drawn, claims as laws-of}
use Rattle.demands.specs.Peaks.{most_used}
use Rattle.demands.proofs.Calls.{view-is}
use Rattle.demands.proofs.PeakClaims.{peak_claims}
use Rattle.convert.specs.Convert.{convert_outcome, conversion, converted}
use Rattle.convert.specs.Claim.{Done, Claims}

-- ---- refused

module _ (s t : List ℕ) where
  not-zero : (r : Outcome) → convert_outcome s t ≡ r → r.number ≢ 0 → converted s t ≡ t
  unfolding converted
  not-zero r e n = pick_no _ _ _ (ne_eqb (convert_outcome s t).number 0 (λ z. n (sym (ap (λ (o : Outcome). o.number) e) ∙ z)))

  pub unsound : broken_rule 2 s ≢ 0 → (convert_outcome s t ≡ refused NotSound) × (converted s t ≡ t)
  unsound n = (told, not-zero (refused NotSound) told (omega arith))
    where
      told : convert_outcome s t ≡ refused NotSound
      told = unfold convert_outcome in pick_no _ _ _ (ne_eqb (broken_rule 2 s) 0 n)

  pub wrong_length : broken_rule 2 s ≡ 0 → pages_in 3 t ≢ pages_in 2 s → (convert_outcome s t ≡ refused WrongLength) × (converted s t ≡ t)
  wrong_length e n = (told, not-zero (refused WrongLength) told (omega arith))
    where
      told : convert_outcome s t ≡ refused WrongLength
      told = unfold convert_outcome in pick_yes _ _ _ (eq-eqb (broken_rule 2 s) 0 e) ∙ pick_no _ _ _ (ne_eqb (pages_in 3 t) (pages_in 2 s) n)

-- ---- done

module _ (s t : List ℕ) (B : Bytes s) (C : Bytes t) (sound : broken_rule 2 s ≡ 0) (same : pages_in 3 t ≡ pages_in 2 s) where
  pub granted-is : convert_outcome s t ≡ granted (pages_in 2 s)
  unfolding convert_outcome
  granted-is = pick_yes _ _ _ (eq-eqb (broken_rule 2 s) 0 sound) ∙ pick_yes _ _ _ (eq-eqb (pages_in 3 t) (pages_in 2 s) same)

  pub converted-is : converted s t ≡ conversion (pages_in 2 s) s t
  unfolding converted
  converted-is = pick_yes _ _ _ (ap (λ (o : Outcome). eqb o.number 0) granted-is)

  abbrev P : ℕ
  P = pages_in 2 s

  abbrev m : State
  m = read 2 s

  abbrev L : Laws 2 s
  L = laws-of 2 (omega arith) (omega arith) s B

  F : Fitting 2 s m
  F = L.sound-fits sound

  some : 1 ≤ P
  some = omega (arith, F.well.some-page, F.size)

  pub source_room : pages_from 2 P + 4096 * P ≤ length s
  source_room = omega (arith, some)

  pub target_room : pages_from 3 P + 4096 * P ≤ length t
  target_room = omega (arith, some, same)

  -- the target with the source's pages, and with the peaks
  abbrev laid : List ℕ
  laid = lay (pages_from 3 P) (pages_from 2 P) s (4096 * P) t

  abbrev under : List ℕ
  under = with_peaks 3 (λ c. (class_at 2 s c).used) laid

  length_under : length under ≡ length t
  length_under = length-peaks 3 _ laid ∙ length-lay (pages_from 3 P) (pages_from 2 P) s (4096 * P) t

  under_bytes : Bytes under
  under_bytes = peaks-keep 3 _ laid (lay-bytes (pages_from 3 P) (pages_from 2 P) s (4096 * P) t target_room B C)

  page_byte : (i : ℕ) → i < 4096 * P → get_or under (pages_from 3 P + i) 0 ≡ get_or s (pages_from 2 P + i) 0
  page_byte i h =
      byte_peaks 3 _ laid P (pages_from 3 P + i) (omega arith) ∙ lay-inside (pages_from 3 P) (pages_from 2 P) s (4096 * P) t i h target_room

  tail_byte : (i : ℕ) → pages_from 3 P + 4096 * P ≤ i → get_or under i 0 ≡ get_or t i 0
  tail_byte i h =
      byte_peaks 3 _ laid P i (omega arith) ∙ lay-outside (pages_from 3 P) (pages_from 2 P) s (4096 * P) t i (inr h)

  -- ---- the conversion is the drawing of the source's state over it

  image : Same P (image_of 2 s) (state_image m)
  image =
      unfold state_fields fields_of read read_fields in
      (fields_drawn some (omega (arith, F.few, F.size)) (none-broken 2 s sound).1 (fields_bounds 2 s B)).image_same

  in_pages : (p j : ℕ) → map_has (m.page p) j ≡ true → p < P
  in_pages p j h = go (lt? p m.size)
    where
      go : (p < m.size) ⊎ (m.size ≤ p) → p < P
      go (inl l) = omega (arith, F.size)
      go (inr l) = absurd (clash h (ap (λ (x : Page). map_has x j) (F.well.table.past p l)))

  map_byte_lem : (p j : ℕ) → j < 4096 → map_has (m.page p) j ≡ true → get_or s (pages_from 2 m.size + 4096 * p + j) 0 ≡ map_byte (m.page p) j
  map_byte_lem p j l h =
      ap (λ (x : List ℕ). get_or x (pages_from 2 m.size + 4096 * p + j) 0) (sym (mapped-read 2 s B))
      ∙ mapped-has 2 m s p j l h (omega (arith, in_pages p j h, source_room, F.size))

  maps : under ≡ mapped 3 m under
  maps = mapped-is 3 m under under refl (λ i e. refl) here
    where
      here : (p j : ℕ) → j < 4096 → map_has (m.page p) j ≡ true → get_or under (pages_from 3 m.size + 4096 * p + j) 0 ≡ map_byte (m.page p) j
      here p j l h =
          let k : p < P = in_pages p j h in
          let a : pages_from 3 m.size + 4096 * p + j ≡ pages_from 3 P + (4096 * p + j) = omega (arith, F.size) in
          let b : pages_from 2 P + (4096 * p + j) ≡ pages_from 2 m.size + 4096 * p + j = omega (arith, F.size) in
          ap (λ (x : ℕ). get_or under x 0) a ∙ page_byte (4096 * p + j) (omega arith) ∙ ap (λ (x : ℕ). get_or s x 0) b ∙ map_byte_lem p j l h

  drawn : converted s t ≡ draw 3 under m
  unfolding conversion draw
  drawn =
      converted-is ∙ paint_ext 3 P (image_of 2 s) (state_image m) under image ∙ ap (paint 3 P (state_image m)) maps
      ∙ ap (λ (n : ℕ). paint 3 n (state_image m) (mapped 3 m under)) (sym F.size)

  -- ---- what that means

  G : Fitting 3 under m
  G = record { well = F.well; size = F.size ∙ sym same ∙ ap (page_count 3) (sym length_under); few = F.few }

  used_source : (c : ℕ) → c < 9 → (class_at 2 s c).used ≡ used_of m c
  used_source c h =
      ap (λ (x : List ℕ). (class_at 2 x c).used) (sym (L.sound_drawn sound)) ∙ used_drawn 2 (omega arith) (omega arith) s B m F c h

  room : 28 ≤ length laid / 8
  room = omega (arith, some, target_room, length-lay (pages_from 3 P) (pages_from 2 P) s (4096 * P) t)

  used-small : (c : ℕ) → (class_at 2 s c).used < 16777216
  unfolding class_at unpack_class
  used-small c = omega arith

  peak_under : (c : ℕ) → c < 9 → peak_at 3 under c ≡ (class_at 2 s c).used
  peak_under c h =
      peak_shown 3 (λ d. (class_at 2 s d).used) laid (omega arith) room c h (used-small c)

  Q : Peaked 3 under m
  Q = record {
    high = λ deep c h. omega (arith, peak_under c h, used_source c h);
    spare = λ deep c h. spare-shown 3 (λ d. (class_at 2 s d).used) laid (omega arith) room c h;
  }

  abbrev U : Laws 3 under
  U = laws-of 3 (omega arith) (omega arith) under under_bytes

  bytes_are : Bytes (converted s t)
  bytes_are = subst Bytes (sym drawn) (U.drawn_bytes m G)

  sound-is : broken_rule 3 (converted s t) ≡ 0
  sound-is = ap (broken_rule 3) drawn ∙ U.drawn_sound m G Q

  state-is : read 3 (converted s t) ≡ m
  state-is = ap (read 3) drawn ∙ U.drawn_read m G

  peak_is : (c : ℕ) → c < 9 → peak_at 3 (converted s t) c ≡ (class_at 2 s c).used
  peak_is c h = ap (λ (x : List ℕ). peak_at 3 x c) drawn ∙ peak_drawn 3 (omega arith) under m c h ∙ peak_under c h

  past-records : (i : ℕ) → pages_from 3 P ≤ i → get_or (converted s t) i 0 ≡ get_or under i 0
  unfolding conversion
  past-records i h = ap (λ (x : List ℕ). get_or x i 0) converted-is ∙ byte_shown 3 P (omega arith) (image_of 2 s) under i h

  done : Done s t
  done = record {
    outcome = granted-is;
    bytes = bytes_are;
    sound = sound-is;
    state = state-is;
    live = λ e. rw state-is (λ x. x, λ x. x);
    view =
        view-is 3 (omega arith) (omega arith) (converted s t) bytes_are sound-is ∙ ap shown state-is
        ∙ sym (view-is 2 (omega arith) (omega arith) s B sound);
    lengths = ap length drawn ∙ U.drawn_length m ∙ length_under;
    pages = λ i h. past-records (pages_from 3 P + i) (omega arith) ∙ page_byte i h;
    tail = λ i h. past-records i (omega arith) ∙ tail_byte i h;
    peaks = peak_is;
    history = λ turns A c h.
        (peak_claims 3 (omega arith) (omega arith) (converted s t) bytes_are c h).history sound-is turns A ∙ ap (λ (x : ℕ). most_used 3 c x turns) (peak_is c h);
  }

pub claims : Claims
claims s t B C = record {
  unsound = unsound s t;
  wrong_length = wrong_length s t;
  done = done s t B C;
}
