-- What format leaves shows the model's fresh state.
use mathlib.Core.Path.{◌≡◌, refl, ap, ◌∙◌, fun_ext}
use mathlib.Core.Logic.{◌⊎◌, inl, inr}
use mathlib.Core.Bool.{Bool, cond}
use mathlib.Core.List.{List, [], ◌∷◌}
use Prim.Native.Nat.{ℕ, zero, suc, ◌≤◌, ◌<◌}
use lib.Dec.{ltb}
use lib.ListN.{get_or, replicate}
use borrow.Author.Tests.{lt-ltb, le-ltb}
use Rattle.base.specs.Tests.{pick}
use Rattle.base.proofs.Cases.{lt?}
use Rattle.model.specs.State.{idle, edge}
use Rattle.model.specs.Calls.{fresh}
use Rattle.plain.specs.Table.{vacant, is_vacant, run_of, read_runs}
use Rattle.plain.specs.Plain.{free_entry, entry_at, page_of, page_at, listed, list_of, no_counts, tally_of, read_plain}
use Rattle.plain.specs.Fresh.{plain_fresh}
use Rattle.plain.proofs.Shown.{page_in, page-past}

same_at : {A : Type 0} (n i : ℕ) (a : A) → get_or (replicate n a) i a ≡ a
same_at zero i a = refl
same_at (suc n) zero a = refl
same_at (suc n) (suc i) a = same_at n i a

pub fresh-shown : (b : List ℕ) → read_plain plain_fresh b ≡ fresh 12
unfolding read_plain fresh
fresh-shown b = λ x. record {
  size = 12;
  page = fun_ext pages x;
  runs = runs x;
  lists = fun_ext lists x;
  tally = fun_ext tallies x;
}
  where
    entry : (j : ℕ) → entry_at plain_fresh j ≡ free_entry
    entry j = unfold entry_at in unfold plain_fresh in same_at 12 j free_entry

    free_page_lem : (m : ℕ → Bool) → page_of free_entry m ≡ idle
    free_page_lem m = unfold page_of in unfold free_entry in unfold pick in refl

    pages : (j : ℕ) → page_at plain_fresh b j ≡ cond (ltb j 12) idle edge
    pages j = go (lt? j 12)
      where
        go : (j < 12) ⊎ (12 ≤ j) → page_at plain_fresh b j ≡ cond (ltb j 12) idle edge
        go (inl h) = page_in plain_fresh b j h ∙ rw (entry j, free_page_lem, lt-ltb j 12 h)
        go (inr h) = page-past plain_fresh b j h ∙ rw (le-ltb j 12 h)

    runs : read_runs plain_fresh.runs ≡ record { start = 0; len = 12 } ∷ []
    runs = unfold plain_fresh in unfold read_runs in unfold is_vacant in unfold vacant in unfold run_of in unfold pick in refl

    lists : (c : ℕ) → list_of plain_fresh c ≡ []
    lists c = unfold list_of in unfold listed in unfold plain_fresh in refl

    tallies : (c : ℕ) → tally_of (get_or plain_fresh.counts c no_counts) ≡ record { reqs = 0; fails = 0 }
    tallies c = ap tally_of at_c ∙ (unfold tally_of in unfold no_counts in refl)
      where
        at_c : get_or plain_fresh.counts c no_counts ≡ no_counts
        at_c = unfold plain_fresh in same_at 9 c no_counts
