-- What alloc and free answer and leave (SPEC 4), for every content of the slice.
use Rattle.std.specs.Prelude.{ℕ, ◌/◌, ◌%◌, false, cond, List, eqb}
use Rattle.base.specs.Tests.{pick}
use Rattle.answers.specs.Outcome.{Outcome, granted, refused}
use Rattle.answers.specs.declared.Refusal.TheVariants.{NotSound}
use Rattle.maps.specs.Bitmap.{with_mark}
use Rattle.base.specs.Functions.{upd}
use Rattle.model.specs.Classes.{chunk, has_taken, starts_chunk}
use Rattle.model.specs.State.{Page, idle, slab, taken, inside, edge, State}
use Rattle.model.specs.Calls.{Call, Alloc, Free, Answer, at, freed, no, step}
use Rattle.rules.specs.Bytes.{pages_in, map_base, broken_rule, read}
use Rattle.drawing.specs.Draw.{draw, raised}

-- the model's answer as number and value (SPEC 4.1)
abbrev pub outcome : Answer → Outcome
outcome (at off) = granted off
outcome (freed n) = granted n
outcome (no k) = record { number = k; value = 0 }

-- unsound records are refused with 3; on sound ones the model answers
unfoldable pub answered : (w : ℕ) (s : List ℕ) (call : Call) → Outcome
answered w s call = pick (eqb (broken_rule w s) 0) (outcome (step (read w s) call).answer) (refused NotSound)

-- The last chunk of a page that is freed has its mark cleared, and the mark stays cleared in the bytes of the page, which is free then.
-- Where other chunks stay taken the drawing has the mark.
unfoldable pub cleared_at : ℕ → List ℕ → ℕ → ℕ → Page → List ℕ
cleared_at w s p q idle = s
cleared_at w s p q (slab c m) =
    cond (starts_chunk c q)
    (cond (m (q / chunk c)) (cond (has_taken c (upd m (q / chunk c) false)) s (with_mark s (map_base w (pages_in w s) p c) (q / chunk c) false)) s)
    s
cleared_at w s p q (taken n) = s
cleared_at w s p q inside = s
cleared_at w s p q edge = s

unfoldable pub cleared : ℕ → List ℕ → Call → List ℕ
cleared w s (Alloc n) = s
cleared w s (Free off) = cleared_at w s (off / 4096) (off % 4096) ((read w s).page (off / 4096))

-- a state drawn over s with its peaks raised
unfoldable pub redrawn : (w : ℕ) (s : List ℕ) (m : State) → List ℕ
redrawn w s m = draw w (raised w s m) m

-- unsound records stay as they are; on sound ones the model's next state is drawn
unfoldable pub after : (w : ℕ) (s : List ℕ) (call : Call) → List ℕ
after w s call = pick (eqb (broken_rule w s) 0) (redrawn w (cleared w s call) (step (read w s) call).after) s
