-- What an accepted copy is.
use mathlib.Core.Path.{◌≡◌, refl, sym, ap, ◌∙◌, subst}
use mathlib.Core.List.{List}
use Prim.Native.Nat.{ℕ, ◌≤◌}
use lib.ListN.{length}
use Rattle.words.specs.Word.{Bytes}
use Rattle.records.specs.Layout.{page_count}
use Rattle.model.specs.WellFormed.{TableOk}
use Rattle.model.specs.Calls.{Call}
use Rattle.model.specs.Live.{LiveSet, blocks}
use Rattle.model.proofs.LiveSets.{blocks-set}
use Rattle.rules.specs.Bytes.{pages_in, broken_rule, read}
use Rattle.drawing.specs.Claim.{Fitting}
use Rattle.drawing.proofs.Laws.{claims as laws-of}
use Rattle.demands.specs.Calls.{answered}
use Rattle.demands.specs.Shown.{shown_by}
use Rattle.demands.specs.Demands.{Faithful}
use Rattle.demands.proofs.Demands.{all-demands}
use Rattle.demands.proofs.PeakClaims.{peak_claims}
use Rattle.mending.specs.Remade.{remade}
use Rattle.mending.proofs.Determined.{pages_determined}
use Rattle.mending.specs.Mending.{table, Accepted, repaired, mended_copy}
use Rattle.mending.specs.Claim.{Restored}
use Rattle.mending.proofs.Copy.{table_is, repaired-fits, copy_bytes, copy_accepted}

module _ (w : ℕ) (wide : 2 ≤ w) (narrow : w ≤ 255) (s : List ℕ) (B : Bytes s) (t : List ℕ) (C : Bytes t) where
  -- a sound slice of the same length shows a state of as many pages
  module _ (lengths : length s ≡ length t) (sound : broken_rule w t ≡ 0) where
    pub read_fits : Fitting w t (read w t)
    read_fits = (laws-of w wide narrow t C).sound-fits sound

    pub read-size : (read w t).size ≡ pages_in w s
    read-size = read_fits.size ∙ ap (page_count w) (sym lengths)

    pub read_table : TableOk (pages_in w s) (read w t).page
    read_table = subst (λ (n : ℕ). TableOk n (read w t).page) read-size read_fits.well.table

  pub restored : Accepted w s t → Restored w s t
  restored A = record {
    pages = pages;
    view = alike.0;
    ruled = alike.1;
    live = live;
    onward = λ D u O.
        subst (λ (n : ℕ). Faithful w n D u) (ap (page_count w) (sym A.lengths))
        ((all-demands w wide narrow t C).demand3-from A.sound (blocks (repaired w s)) live D u O);
    history = λ deep c h. (peak_claims w deep narrow t C c h).history A.sound;
  }
    where
      F : Fitting w t (read w t)
      F = read_fits A.lengths A.sound

      R : Fitting w s (repaired w s)
      R = repaired-fits w wide narrow s B A.good

      size : (read w t).size ≡ pages_in w s
      size = read-size A.lengths A.sound

      pages : (read w t).page ≡ table w s
      pages =
          pages_determined (pages_in w s) (read w t).page (table w s) (subst (λ (n : ℕ). 1 ≤ n) R.size R.well.some-page)
          (read_table A.lengths A.sound) (table_is w wide narrow s B A.good) (λ e. ((A.blocks e).1, (A.blocks e).0))

      page : (repaired w s).page ≡ table w s
      page = unfold repaired remade in refl

      K : Accepted w s (mended_copy w s)
      K = copy_accepted w wide narrow s B A.good

      alike : (shown_by w t ≡ shown_by w (mended_copy w s)) × ((call : Call) → (answered w t call).number ≡ (answered w (mended_copy w s) call).number)
      alike =
          ((all-demands w wide narrow t C).corollaries A.sound).alike (mended_copy w s) (copy_bytes w wide narrow s B A.good) K.sound
          (ap (page_count w) (sym A.lengths ∙ K.lengths)) (λ e. (λ l. (K.blocks e).0 ((A.blocks e).1 l), λ l. (A.blocks e).0 ((K.blocks e).1 l)))

      live : LiveSet (blocks (repaired w s)) (read w t).page
      live = subst (LiveSet (blocks (repaired w s))) (page ∙ sym pages) (blocks-set (repaired w s) R.well)
