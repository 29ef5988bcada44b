use mathlib.Core.Path.{ap, ◌∙◌}
use Prim.Native.Nat.{ℕ, ◌/◌, ◌%◌}
use Rattle.words.specs.Word.{word}
use Rattle.records.specs.Class.{unpack_class, class_at}
use Rattle.record_class.proofs.get_first_in.Goals as goal

pub returns : goal.returns
unfolding unpack_class class_at
returns c = ap (λ (v : ℕ). v / 281474976710656 % 65536) (c.get_word_in-v.ensures ∙ ap (word c.args.pool.now) c.place.ensures)
