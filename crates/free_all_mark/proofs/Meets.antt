-- The mark in the order of code is that of the trial.
use mathlib.Core.Path.{◌≡◌, refl, ◌∙◌}
use mathlib.Core.Bool.{Bool}
use mathlib.Core.List.{List}
use Prim.Native.Nat.{ℕ, zero, suc, ◌/◌, ◌%◌, ◌<◌}
use native.Mathlib.Nat.{div-le_self}
use native.Mathlib.Omega.{arith}
use borrow.Author.Tests.{le-leb, ne_eqb}
use Rattle.base.specs.Tests.{pick}
use Rattle.records.specs.Page.{links_at}
use Rattle.model.specs.Classes.{chunk}
use Rattle.model.specs.State.{slab}
use Rattle.rules.specs.Fields.{page_of}
use Rattle.rules.specs.Bytes.{pages_in, map_base, mark_at}
use Rattle.free_all_model.proofs.Settled.{TrialOk}
use Rattle.free_all_trial.specs.Mirror.{shown_page, put_mark_at, put_mark}
use Rattle.free_all_trial.proofs.Changed.{page-is}
use Rattle.free_all_mark.specs.Mirror.{sized_put, class_put, run_put, kind_put, page_put, offset_put}

module _ (live : Bool) (w : ℕ) (s : List ℕ) (ok : TrialOk (shown_page w s)) where
  kind-is : (p q : ℕ) → p < pages_in w s → q < 4096 → kind_put live w s (pages_in w s) p q (links_at w s p) ≡ put_mark_at live w s p q (shown_page w s p)
  unfolding kind_put class_put sized_put run_put put_mark_at pick map_base
  kind-is p q h l = go (links_at w s p).kind refl (page-is w s p h)
    where
      go : (k : ℕ) → (links_at w s p).kind ≡ k → shown_page w s p ≡ page_of (links_at w s p).kind (links_at w s p).class (links_at w s p).run (mark_at w s p (links_at w s p).class) →
          kind_put live w s (pages_in w s) p q (links_at w s p) ≡ put_mark_at live w s p q (shown_page w s p)
      go zero e x = rw (x, e)
      go (suc zero) e x = rw (x, e)
      go (suc (suc zero)) e x =
          let page : shown_page w s p ≡ slab (links_at w s p).class (mark_at w s p (links_at w s p).class) = x ∙ rw e in
          let z : q / chunk (links_at w s p).class % 65536 ≡ q / chunk (links_at w s p).class = omega (arith, div-le_self q (chunk (links_at w s p).class)) in
          rw (page, e, le-leb (links_at w s p).class 8 (ok.in_range p _ _ page), z)
      go (suc (suc (suc zero))) e x = rw (x, e)
      go (suc (suc (suc (suc zero)))) e x = rw (x, e)
      go (suc (suc (suc (suc (suc k))))) e x = rw (x, e, ne_eqb (suc (suc (suc (suc (suc k))))) 2 (omega arith), ne_eqb (suc (suc (suc (suc (suc k))))) 3 (omega arith))

  pub put_is : (off : ℕ) → off / 4096 < pages_in w s → pages_in w s < 65536 → offset_put live w s (pages_in w s) off ≡ put_mark live w s off
  unfolding offset_put page_put put_mark
  put_is off h few =
      let z : off / 4096 % 65536 ≡ off / 4096 = omega arith in
      rw z (kind-is (off / 4096) (off % 4096) h (omega arith))
