-- The worked examples hold, by evaluation.
use mathlib.Core.Path.{refl}
use Rattle.base.specs.Functions.{upd, fill}
use Rattle.base.specs.Links.{others}
use Rattle.base.specs.Search.{least, any}
use Rattle.model.specs.Classes.{chunk, chunks, own, lowest, has_clear, has_taken, new_marks, starts_chunk, class_of, pages_for, need_of}
use Rattle.model.specs.State.{most}
use Rattle.model.specs.Runs.{cut_front, clear_of, joined, join_runs}
use Rattle.model.specs.Calls.{no_room, outside, not_taken, not_a_start, nothing_asked, refuse, fresh, raise, asked, failed, alloc_run, tallied, cut_page, mark_chunk, alloc_chunk, alloc_for, alloc, release, relisted, keep_page, drop_page, free_chunk, free_at, free, step}
use Rattle.model.specs.Live.{next, run_from, begin}
use Rattle.model.specs.Examples.{made, replied, full_page, outer_freed, whole_case, examples, ExamplesHold}

pub examples_hold : ExamplesHold
unfolding chunk chunks own lowest has_clear has_taken new_marks starts_chunk class_of pages_for need_of least any upd fill cut_front clear_of joined join_runs most raise asked failed tallied refuse no_room outside not_taken not_a_start nothing_asked fresh alloc_run cut_page mark_chunk alloc_chunk alloc_for alloc release others relisted keep_page drop_page free_chunk free_at free step begin next run_from made replied full_page outer_freed whole_case examples
examples_hold = refl
