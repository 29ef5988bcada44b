-- The laws of `specs/Claim.antt`, proved.
use mathlib.Core.Path.{◌≡◌}
use mathlib.Core.Bool.{Bool}
use mathlib.Core.List.{List}
use Prim.Native.Nat.{ℕ, ◌+◌, ◌*◌, ◌≤◌}
use native.Mathlib.Omega.{arith}
use lib.ListN.{length}
use Rattle.words.specs.Word.{Bytes}
use Rattle.model.specs.State.{slab, State}
use Rattle.model.specs.WellFormed.{WellFormed}
use Rattle.rules.specs.Bytes.{pages_in}
use Rattle.chunk_laws.specs.Claim.{Laws, Claims}
use Rattle.chunk_laws.proofs.Refused.{chunk_refused_lem}
use Rattle.chunk_laws.proofs.Remarked.{Here}
use Rattle.chunk_laws.proofs.Taken.{lowest-found, chunk_taken_lem}
use Rattle.chunk_laws.proofs.Cut.{page_cut_lem}
use Rattle.chunk_laws.proofs.Kept.{chunk_kept}
use Rattle.chunk_laws.proofs.Dropped.{page_dropped_lem}

module _ (w : ℕ) (wide : 2 ≤ w) (narrow : w ≤ 255) (s : List ℕ) (B : Bytes s) (m : State) (W : WellFormed m) (size : m.size ≡ pages_in w s) (few : m.size ≤ 4096) where
  room : 8 + 72 * w + 4112 * m.size ≤ length s
  room = omega (arith, W.some-page)

  here : {p c : ℕ} {k : ℕ → Bool} → m.page p ≡ slab c k → Here w s m p c k
  here is = record { wide = wide; narrow = narrow; slice = B; well = W; few = few; room = room; is = is }

  laws : Laws w s m
  laws = record {
    refused = chunk_refused_lem w wide s m W few room;
    lowest-found = λ p c k rest is on. lowest-found (here is) rest on;
    taken = λ p c k rest is on. chunk_taken_lem (here is) rest on;
    cut = λ c r ok empty found. page_cut_lem w wide narrow s B m W few room c ok empty r found;
    kept = λ p c k i is a b set stay. chunk_kept (here is) i a b set stay;
    dropped = λ p c k i is a b set last. page_dropped_lem (here is) i a b set last;
  }

pub claims : Claims
claims = laws
