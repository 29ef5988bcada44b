-- A chunk asked for in vain: the class record alone changes.
use mathlib.Core.Path.{◌≡◌, refl, ◌∙◌}
use mathlib.Core.List.{List}
use Prim.Native.Nat.{ℕ, ◌+◌, ◌*◌, ◌≤◌}
use native.Mathlib.Omega.{arith}
use lib.ListN.{length}
use Rattle.base.specs.Functions.{upd}
use Rattle.base.proofs.Functions.{upd_same, upd_other}
use Rattle.model.specs.State.{State}
use Rattle.model.specs.View.{used_of, shown}
use Rattle.model.specs.Calls.{failed, tallied}
use Rattle.model.specs.WellFormed.{WellFormed}
use Rattle.model.proofs.Tallies.{failed_ok}
use Rattle.image.specs.Image.{paint}
use Rattle.rules.specs.Drawn.{state_image}
use Rattle.rules.proofs.Fits.{state-fits}
use Rattle.classes.specs.Mirror.{none_used, chunk_refused}
use Rattle.drawing.specs.Draw.{in_map, mapped_byte, mapped, draw}
use Rattle.drawing.proofs.Mapped.{length-mapped}
use Rattle.chunk_laws.proofs.Next.{class_drawn, class_same, counts_drawn}

module _ (w : ℕ) (wide : 2 ≤ w) (s : List ℕ) (m : State) (W : WellFormed m) (few : m.size ≤ 4096) (room : 8 + 72 * w + 4112 * m.size ≤ length s)
    (c : ℕ) (ok : c ≤ 8) where
  abbrev n : State
  n = record { size = m.size; page = m.page; runs = m.runs; lists = m.lists; tally = upd m.tally c (failed (m.tally c)) }

  Wn : WellFormed n
  Wn = record {
    some-page = W.some-page;
    table = W.table;
    free_runs = W.free_runs;
    class-lists = W.class-lists;
    tallies = failed_ok W.tallies c ok;
  }

  own : none_used ((state_image m).class c) ≡ (state_image n).class c
  unfolding state_image failed used_of shown
  own = rw (upd_same m.tally c (failed (m.tally c)))

  pub chunk_refused_lem : chunk_refused w (draw w s m) c ≡ draw w s (tallied m c)
  unfolding chunk_refused draw tallied mapped mapped_byte in_map state_image paint
  chunk_refused_lem =
      class_drawn w m.size wide (state_image m) (mapped w m s) (rw (length-mapped w m s) (omega arith)) (state-fits W few) c ok none_used
      ∙ counts_drawn m n W Wn refl few c (state_image m).map (none_used ((state_image m).class c)) (λ q l. unfold state_image in refl) own
      (λ d e. class_same m n W Wn refl few d (unfold used_of in refl) (unfold shown in refl) (upd_other m.tally c (failed (m.tally c)) d e)) w (mapped w m s)
