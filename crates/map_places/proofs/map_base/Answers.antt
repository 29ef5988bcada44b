use mathlib.Core.Path.{sym, ap, ◌∙◌}
use Prim.Native.Nat.{ℕ, ◌*◌}
use borrow.Author.Rules.{rules}
use Rattle.map_places.proofs.Places.{base_word}
use Rattle.map_places.proofs.map_base.Goals as goal

pub returns : goal.returns
returns c = ap (λ (k : ℕ). 8 * k) c.map_word-k.ensures.answer ∙ sym (base_word _ _ _ _)
