-- Which pages belong on the ten lists, which are numbered as in `lists`.
use Rattle.std.specs.Prelude.{ℕ, ◌-◌, Bool, eqb}
use Rattle.base.specs.Tests.{pick}
use Rattle.rules.specs.Fields.{Fields}
use Rattle.rules.specs.Read.{is_head, open_at}

-- first pages of free runs on list 0, pages of class c with a clear mark on list 1 + c
unfoldable pub belongs : Fields → ℕ → ℕ → ℕ → Bool
belongs v n list = pick (eqb list 0) (is_head v n) (open_at v n (list - 1))
