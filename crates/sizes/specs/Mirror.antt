-- What a size asks for, as the code finds it.
use Rattle.std.specs.Prelude.{ℕ, leb}
use Rattle.base.specs.Tests.{pick}

-- the smallest class whose chunk holds n bytes, for n up to 2,048
unfoldable pub up_to64 : ℕ → ℕ
up_to64 n = pick (leb n 8) 0 (pick (leb n 16) 1 (pick (leb n 32) 2 3))

unfoldable pub up_to2048 : ℕ → ℕ
up_to2048 n = pick (leb n 128) 4 (pick (leb n 256) 5 (pick (leb n 512) 6 (pick (leb n 1024) 7 8)))

unfoldable pub class_for : ℕ → ℕ
class_for n = pick (leb n 64) (up_to64 n) (up_to2048 n)
