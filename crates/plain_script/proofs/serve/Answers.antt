use Rattle.script.proofs.Claims.{whole-short, whole_long}
use Rattle.plain_script.proofs.serve.Goals as goal

pub returns-then-input-le12288 : goal.returns-then-input-le12288
returns-then-input-le12288 c = whole-short _ _ _ _ c.if-input-le12288.true (c.serve_fresh.ensures.answer, c.serve_fresh.ensures.slice)

pub returns-else-input-le12288 : goal.returns-else-input-le12288
returns-else-input-le12288 c = whole_long _ _ _ _ c.if-input-le12288.false c.put_refusal.ensures
