use mathlib.Core.Path.{◌≡◌, refl}
use mathlib.Core.Bool.{Bool, true, false}
use mathlib.Core.List.{List, [], ◌∷◌, ◌++◌}
use native.Mathlib.Omega.{arith}
use lib.ListN.{take, get_or}
use Prim.Native.Nat.{◌+◌}
use Rattle.std.proofs.lemmas.List.{take_more}
use Rattle.base.specs.Tests.{pick, all_of}
use Rattle.branchless.proofs.all.Goals as goal

all_of_more : (bs : List Bool) (b : Bool) → all_of (bs ++ b ∷ []) ≡ pick b (all_of bs) false
unfolding all_of pick
all_of_more [] b = refl
all_of_more (true ∷ bs) b = all_of_more bs b
all_of_more (false ∷ bs) true = refl
all_of_more (false ∷ bs) false = refl

pub loop-t-init : goal.loop-t-init
unfolding all_of
loop-t-init g c = refl

pub loop-t-preserved : goal.loop-t-preserved
loop-t-preserved g c =
    let i = c.loop-t.t-index in
    let bs = c.args.tests.now in
    let e : take (i + 1) bs ≡ take i bs ++ get_or bs i false ∷ [] = take_more bs i false (omega arith) in
    rw (e, all_of_more (take i bs) (get_or bs i false), ← c.loop-t.invariant) c.both-holds.ensures
