-- Bytes of one list laid over another.
use Rattle.std.specs.Prelude.{ℕ, zero, suc, ◌+◌, List, get_or, set}

-- t, the n bytes from `to` on those of s from `from` on
unfoldable pub lay : (to from : ℕ) (s : List ℕ) → ℕ → List ℕ → List ℕ
lay to from s zero t = t
lay to from s (suc n) t = set (lay to from s n t) (to + n) (get_or s (from + n) 0)
