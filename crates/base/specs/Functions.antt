-- Functions on numbers with one place or one stretch changed.
use Rattle.std.specs.Prelude.{cond, ◌&&◌, ℕ, ◌+◌, eqb, leb, ltb}

-- f with the value x at p
unfoldable pub upd : {A : Type 0} → (ℕ → A) → ℕ → A → ℕ → A
upd f p x j = cond (eqb j p) x (f j)

-- f with the value x at the k places from s on
unfoldable pub fill : {A : Type 0} → (ℕ → A) → ℕ → ℕ → A → ℕ → A
fill f s k x j = cond (leb s j && ltb j (s + k)) x (f j)
