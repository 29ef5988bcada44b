use Prim.Native.Nat.{ℕ, min}
use mathlib.Core.Path.{◌≡◌, ◌∙◌}
use mathlib.Core.Logic.{⊎_elim}
use mathlib.Core.List.{List}
use native.Mathlib.Omega.{arith}
use Rattle.base.proofs.Cases.{lt?}
use Rattle.maps.specs.Mirror.{lowest_clear}
use Rattle.maps.proofs.Search.{Stopped, search_start, byte_start, bit-set, bit_clear, byte_done, search_done, search_hit, search_miss}
use Rattle.map_search.proofs.by_bits.Goals as goal

-- a clear mark past mark n is no hit
hit : (s : List ℕ) (base n k : ℕ) → Stopped s base n k → min k n ≡ lowest_clear s base n
hit s base n k h =
    ⊎_elim
    (λ l. let e : min k n ≡ k = omega arith in e ∙ search_hit s base n k h l)
    (λ l. let e : min k n ≡ n = omega arith in e ∙ search_miss s base n k h l)
    (lt? k n)

pub loop-j-init : goal.loop-j-init
loop-j-init c = search_start _ _

pub loop-i-init : goal.loop-i-init
loop-i-init c = byte_start c.args.pool.now _ c.loop-j.j _ c.get_byte-b.ensures _ c.passed-i.ensures c.loop-j.invariant

pub returns-then-not-bit_at : goal.returns-then-not-bit_at
returns-then-not-bit_at c =
    c.min.ensures
    ∙ hit _ _ _ _ (bit_clear c.args.pool.now _ c.loop-j.j _ c.get_byte-b.ensures c.loop-i.i c.loop-i-test.true _ c.bit_at.ensures c.args.n c.loop-i.invariant.1 c.if-not-bit_at.true)

pub loop-i-preserved : goal.loop-i-preserved
loop-i-preserved c = let l = c.loop-i in
    (omega arith, bit-set c.args.pool.now _ c.loop-j.j _ c.get_byte-b.ensures l.i c.loop-i-test.true _ c.bit_at.ensures l.invariant.1 c.if-not-bit_at.false)

pub loop-j-preserved : goal.loop-j-preserved
loop-j-preserved c = byte_done _ _ _ c.loop-i.i c.loop-i.invariant.0 c.loop-i-test.false c.loop-i.invariant.1

pub returns : goal.returns
returns c = search_miss _ _ _ _ (search_done c.args.pool.now _ c.args.n c.loop-j.j (omega arith) c.loop-j.invariant) (omega arith)
