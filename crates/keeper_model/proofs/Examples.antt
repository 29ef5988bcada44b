-- The examples, by computing.
use mathlib.Core.Path.{refl}
use Rattle.base.specs.Functions.{upd, fill}
use Rattle.base.specs.Search.{least, any}
use Rattle.base.specs.Tests.{pick, all_below}
use Rattle.base.specs.Links.{others}
use Rattle.model.specs.Classes.{chunk, chunks, own, lowest, has_clear, has_taken, new_marks, starts_chunk, class_of, pages_for, need_of}
use Rattle.model.specs.State.{most}
use Rattle.model.specs.Runs.{cut_front, clear_of, joined, join_runs}
use Rattle.model.specs.Calls.{no_room, outside, not_taken, not_a_start, nothing_asked, refuse, fresh, raise, asked, failed, tallied, alloc_run, cut_page, mark_chunk, alloc_chunk, alloc_for, alloc, release, relisted, keep_page, drop_page, free_chunk, free_at, free, step}
use Rattle.keeper_model.specs.Store.{bytes_at, copied, is_empty, holds, slot, first_empty, record_in}
use Rattle.keeper_model.specs.Directory.{room_at, fits_in, entry_ok, differ, directory_ok}
use Rattle.keeper_model.specs.Requests.{not_sound, empty_record, too_long, no_place, not_held, place_for, replaced, put_in, put, find, remove, ask}
use Rattle.keeper_model.specs.Turns.{begin}
use Rattle.keeper_model.specs.Examples.{results, replies, ExamplesHold}

pub examples_hold : ExamplesHold
unfolding chunk chunks own lowest has_clear has_taken new_marks starts_chunk class_of pages_for need_of least any pick all_below upd fill cut_front clear_of joined join_runs most raise asked failed tallied refuse no_room outside not_taken not_a_start nothing_asked fresh alloc_run cut_page mark_chunk alloc_chunk alloc_for alloc release others relisted keep_page drop_page free_chunk free_at free step bytes_at copied is_empty holds slot first_empty record_in room_at fits_in entry_ok differ directory_ok not_sound empty_record too_long no_place not_held place_for replaced put_in put find remove ask begin results replies
examples_hold = record { two-places = refl; no_room_lem = refl }
