use mathlib.Core.Path.{◌≡◌, sym, ◌∙◌}
use Prim.Native.Nat.{◌*◌, ◌/◌, ◌%◌}
use native.Mathlib.Omega.{arith}
use lib.ListN.{get_or}
use Rattle.model.specs.Classes.{counted}
use Rattle.rules.specs.Fields.{Fields}
use Rattle.rules.specs.Bytes.{image_of, fields_of}
use Rattle.validate_totals.proofs.Totals.{used-is, total-is}
use Rattle.mend_order.proofs.Lists.{first_open}
use Rattle.mend.proofs.Steps.{total-small}
use Rattle.mending.specs.Mirror.{class_anew}
use Rattle.mend.proofs.class_anew.Goals as goal

pub overflow_mul-total : goal.overflow_mul-total
overflow_mul-total c = record { fits = omega (arith, total-small _ _ _ c.middle.ensures.bound c.total_count.ensures) }

pub overflow_cast-total-2 : goal.overflow_cast-total-2
overflow_cast-total-2 c = record { fits = total-small _ _ _ c.middle.ensures.bound c.total_count.ensures }

pub returns : goal.returns
unfolding class_anew fields_of image_of
returns c = let r = c.get_class-r.ensures in
    let v : Fields = fields_of c.args.w c.args.damaged.now in
    let f = first_open v c.args.n _ c.args.c 0 c.args.n c.first_from-first.ensures in
    let u = c.low-used.ensures ∙ sym (used-is v c.args.n c.args.t.now c.requires.0.most c.requires.0.counted c.args.c c.requires.1) in
    let m : c.middle.result * c.total_count.result ≡ get_or c.args.t.now c.args.c 0 / 4294967296 % 65536 * counted c.args.c =
    λ i. c.middle.ensures.answer i * c.total_count.ensures i in
    let t = m ∙ sym (total-is v c.args.n c.args.t.now c.requires.0.most c.requires.0.counted c.args.c c.requires.1) in
    λ i. record { first = record { 0 = f i }; used = u i; total = t i; reqs = (r i).reqs; fails = (r i).fails }
