use native.Mathlib.Omega.{arith}
use Rattle.plain.specs.Plain.{read_plain}
use Rattle.plain_host.specs.Host.{shown}
use Rattle.plain_script.proofs.Serving.{replies-few, all_do}
use Rattle.plain_script.proofs.serve_fresh.Goals as goal

pub serve_lines-t-requires : goal.serve_lines-t-requires
serve_lines-t-requires c = (c.requires.0, c.format-s.ensures.sound _ c.requires.0, omega (arith, c.put_line-first.ensures.2, c.requires.1))

pub put_summary-requires : goal.put_summary-requires
put_summary-requires c = omega (arith, c.serve_lines-t.ensures.place, replies-few (read_plain (shown c.format-s.result) c.args.chunks.now) c.args.input.now, c.put_line-first.ensures.2, c.requires.1)

pub returns : goal.returns
returns c =
    let all = let first = c.put_line-first.ensures in all_do _ _ _ _ _ _ _ _ _ _ _ c.format-s.ensures (first.0, first.1) c.serve_lines-t.ensures c.put_summary.ensures in
    record { answer = all.0; slice = all.1 }
