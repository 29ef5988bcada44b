-- The whole case computes.
use mathlib.Core.Path.{refl}
use Rattle.base.specs.Tests.{pick, all_of, all_below}
use Rattle.base.specs.Count.{sum, count}
use Rattle.base.specs.Functions.{upd, fill}
use Rattle.base.specs.Search.{least, any}
use Rattle.base.specs.Links.{others}
use Rattle.model.specs.Classes.{chunk, chunks, own, lowest, has_clear, has_taken, new_marks, starts_chunk, class_of, pages_for, need_of}
use Rattle.model.specs.State.{most}
use Rattle.model.specs.Runs.{cut_front, clear_of, joined, join_runs}
use Rattle.model.specs.Calls.{no_room, outside, not_taken, not_a_start, nothing_asked, refuse, fresh, raise, asked, failed, alloc_run, tallied, cut_page, mark_chunk, alloc_chunk, alloc_for, alloc, release, relisted, keep_page, drop_page, free_chunk, free_at, free, step}
use Rattle.rules.specs.Rules.{free_in}
use Rattle.script_numbers.specs.Numeral.{is_digit, value_of, is_number}
use Rattle.script_lines.specs.Lines.{begins, call_with, request}
use Rattle.printing.specs.Text.{ten_to, digits, many_places, places, decimal, phrase, line}
use Rattle.script_replies.specs.Replies.{refusal_line, outcome_line, alloc_line, free_line, reply_line}
use Rattle.script_summary.specs.Summary.{summary_line}
use Rattle.script.specs.Script.{reply, next, summary, exchange, transcript, printout}
use Rattle.script.specs.Example.{WholeCase}

pub whole_case : WholeCase
unfolding pick all_of all_below sum count chunk chunks own lowest has_clear has_taken new_marks starts_chunk class_of pages_for need_of least any upd fill cut_front clear_of joined join_runs most raise asked failed tallied refuse no_room outside not_taken not_a_start nothing_asked fresh alloc_run cut_page mark_chunk alloc_chunk alloc_for alloc release others relisted keep_page drop_page free_chunk free_at free step free_in is_digit value_of is_number begins call_with request ten_to digits many_places places decimal phrase line refusal_line outcome_line alloc_line free_line reply_line summary_line reply next summary exchange transcript printout
whole_case = refl
