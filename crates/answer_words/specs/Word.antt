-- An answer in one word: the refusal's number in the top 8 bits, 24 zero bits, the value in the low 32.
use Rattle.std.specs.Prelude.{ℕ, ◌+◌, ◌*◌}
use Rattle.answers.specs.Outcome.{Outcome}

abbrev pub word_of : Outcome → ℕ
word_of o = o.number * 72057594037927936 + o.value
