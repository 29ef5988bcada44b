-- What a class has in use rises by an alloc of its own chunks alone.
use mathlib.Core.Path.{◌≡◌, refl, ap}
use mathlib.Core.Logic.{◌≢◌}
use mathlib.Core.Bool.{Bool, true, false, cond}
use mathlib.Core.List.{List, [], ◌∷◌}
use Prim.Native.Nat.{ℕ, ◌+◌, ◌≤◌}
use native.Mathlib.Omega.{arith}
use borrow.Author.Tests.{ne_eqb}
use Rattle.base.specs.Count.{bit}
use Rattle.base.specs.Lists.{keep}
use Rattle.model.specs.Classes.{Need, nothing, chunk_of, pages, need_of}
use Rattle.model.specs.State.{State}
use Rattle.model.specs.WellFormed.{WellFormed}
use Rattle.model.specs.Calls.{Call, Alloc, Free, Answer, at, freed, no, step}
use Rattle.model.specs.Live.{Block, blocks, block_for, noted}
use Rattle.model.specs.View.{used_of}
use Rattle.model.specs.Expected.{of_class, used_in}
use Rattle.model.proofs.Steps.{step_kept}
use Rattle.model.proofs.LiveSets.{blocks-set, noted-set}
use Rattle.model.proofs.Counts.{used-shown}

-- with some blocks struck out there are no more of a class
fewer : (q : Block → Bool) (B : List Block) (d : ℕ) → used_in (keep q B) d ≤ used_in B d
fewer q [] d = omega arith
fewer q (e ∷ B) d = go (q e) (fewer q B d)
  where
    go : (t : Bool) → used_in (keep q B) d ≤ used_in B d → used_in (cond t (e ∷ keep q B) (keep q B)) d ≤ used_in B d + bit (of_class d e)
    go true ih = omega arith
    go false ih = omega arith

-- a block for another need is not of the class
unlike : (x : Need) (off d : ℕ) → x ≢ chunk_of d → of_class d (block_for x off) ≡ false
unfolding block_for
unlike nothing off d n = refl
unlike (chunk_of c) off d n = ne_eqb c d (λ e. n (ap chunk_of e))
unlike (pages k) off d n = refl

module _ (m : State) (W : WellFormed m) (d : ℕ) where
  before : used_of m d ≡ used_in (blocks m) d
  before = used-shown m W (blocks-set m W) d

  after : (call : Call) → used_of (step m call).after d ≡ used_in (noted (blocks m) call (step m call).answer) d
  after call =
      let K = step_kept m W call in
      used-shown (step m call).after K.well (noted-set (blocks m) m.page (step m call).after.page call (step m call).answer (blocks-set m W) K.effect) d

  pub used-alloc : (n : ℕ) → need_of n ≢ chunk_of d → used_of (step m (Alloc n)).after d ≤ used_of m d
  unfolding noted
  used-alloc n u = omega (arith, before, after (Alloc n), go (step m (Alloc n)).answer)
    where
      go : (a : Answer) → used_in (noted (blocks m) (Alloc n) a) d ≤ used_in (blocks m) d
      go (at off) = rw (unlike (need_of n) off d u) (omega arith)
      go (freed k) = omega arith
      go (no k) = omega arith

  pub used-free : (off : ℕ) → used_of (step m (Free off)).after d ≤ used_of m d
  unfolding noted
  used-free off = omega (arith, before, after (Free off), go (step m (Free off)).answer)
    where
      go : (a : Answer) → used_in (noted (blocks m) (Free off) a) d ≤ used_in (blocks m) d
      go (at x) = omega arith
      go (freed k) = fewer _ (blocks m) d
      go (no k) = omega arith
