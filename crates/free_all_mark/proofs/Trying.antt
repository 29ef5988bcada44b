-- What a loop over the offsets keeps: a step of the code is a step of the trial.
use mathlib.Core.Path.{◌≡◌, refl, sym, ap, ◌∙◌}
use mathlib.Core.Logic.{◌⊎◌, inl, inr, ◌≢◌}
use mathlib.Core.Bool.{Bool, true, false}
use mathlib.Core.List.{List}
use Prim.Native.Nat.{ℕ, zero, suc, ◌/◌, ◌%◌, ◌≤◌, ◌<◌}
use native.Mathlib.Omega.{arith}
use lib.ListN.{length}
use Rattle.base.proofs.Cases.{never, eq?, lt?}
use Rattle.base.proofs.Functions.{upd_same, upd_other}
use Rattle.records.specs.Layout.{page_count}
use Rattle.records.specs.Page.{links_at}
use Rattle.maps.proofs.Marks.{length-with_mark}
use Rattle.model.specs.State.{Page, idle, slab, taken, inside, edge}
use Rattle.model.specs.Ruling.{granted, verdict}
use Rattle.rules.specs.Fields.{page_of}
use Rattle.rules.specs.Read.{read_fields}
use Rattle.rules.specs.Bytes.{pages_in, mark_at, read}
use Rattle.sound_pools.specs.Sound.{Sound}
use Rattle.sound_pools.proofs.Calls.{fits}
use Rattle.free_all_model.specs.Mirror.{Trial, tried_at, tried, tentative_at, tentative}
use Rattle.free_all_model.proofs.Settled.{TrialOk}
use Rattle.free_all_trial.specs.Mirror.{shown_page, shown_trial, put_mark_at, put_mark}
use Rattle.free_all_trial.proofs.Changed.{page-is, page-none}
use Rattle.free_all_trial.proofs.Put.{Room, put-shown, put_room, mark-back}
use Rattle.free_all_trial.proofs.Claim.{room, begins_ok, next_ok}
use Rattle.free_all_try.specs.Mirror.{offset_tried, tried_verdict}
use Rattle.free_all_try.proofs.Meets.{verdict-is}
use Rattle.free_all_mark.specs.Mirror.{offset_put}
use Rattle.free_all_mark.proofs.Meets.{put_is}

-- the slice while offsets are tried
pub record Trying (w : ℕ) (s : List ℕ) : Type 0 where
  pub has_room : Room w s
  pub ok : TrialOk (shown_page w s)
  pub there : (p : ℕ) → p < pages_in w s → shown_page w s p ≢ edge
  pub few : pages_in w s < 65536

pub sound_trying : (w : ℕ) (s : List ℕ) → Sound w s → Trying w s
unfolding shown_page read read_fields
sound_trying w s S = record {
  has_room = room w s S;
  ok = begins_ok w s S;
  there = λ p h e. omega (arith, (fits w s S).well.table.ends p e, (fits w s S).size);
  few = omega (arith, (fits w s S).few, (fits w s S).size);
}

-- ---- the two functions

kind-few : (k c r : ℕ) (f : ℕ → Bool) → page_of k c r f ≢ edge → k ≤ 4
kind-few k c r f d = go (lt? k 5)
  where
    past : (k : ℕ) → 5 ≤ k → page_of k c r f ≡ edge
    past zero h = absurd (omega arith)
    past (suc zero) h = absurd (omega arith)
    past (suc (suc zero)) h = absurd (omega arith)
    past (suc (suc (suc zero))) h = absurd (omega arith)
    past (suc (suc (suc (suc zero)))) h = absurd (omega arith)
    past (suc (suc (suc (suc (suc k))))) h = refl

    go : (k < 5) ⊎ (5 ≤ k) → k ≤ 4
    go (inl h) = omega arith
    go (inr h) = absurd (d (past k h))

module _ (w : ℕ) (s : List ℕ) (T : Trying w s) where
  pub verdict_of : (off : ℕ) → tried_verdict (offset_tried w s (pages_in w s) off) ≡ verdict (tried (shown_trial w s) off)
  verdict_of off =
      verdict-is w s T.ok
      (λ p h. kind-few (links_at w s p).kind (links_at w s p).class (links_at w s p).run (mark_at w s p (links_at w s p).class) (λ z. T.there p h (page-is w s p h ∙ z)))
      T.few off

  granted_there : (off : ℕ) → verdict (tried (shown_trial w s) off) ≡ granted → off / 4096 < pages_in w s
  unfolding tried shown_trial tried_at
  granted_there off g = go (lt? (off / 4096) (pages_in w s))
    where
      go : (off / 4096 < pages_in w s) ⊎ (pages_in w s ≤ off / 4096) → off / 4096 < pages_in w s
      go (inl h) = h
      go (inr h) = absurd (never (cc (rw (page-none w s (off / 4096) h) at g)))

  pub put_of : (off : ℕ) → verdict (tried (shown_trial w s) off) ≡ granted → offset_put false w s (pages_in w s) off ≡ put_mark false w s off
  put_of off g = put_is false w s T.ok off (granted_there off g) T.few

  -- ---- the next offset

  length_at : (p q : ℕ) (x : Page) → length (put_mark_at false w s p q x) ≡ length s
  unfolding put_mark_at
  length_at p q idle = refl
  length_at p q (slab c m) = length-with_mark s _ _ false
  length_at p q (taken n) = length-with_mark s _ _ true
  length_at p q inside = refl
  length_at p q edge = refl

  pub put-length : (off : ℕ) → length (put_mark false w s off) ≡ length s
  unfolding put_mark
  put-length off = length_at (off / 4096) (off % 4096) (shown_page w s (off / 4096))

  put_there : (a q : ℕ) (x : Page) (p : ℕ) → p < pages_in w s → (tentative_at (shown_trial w s) a q x).page p ≢ edge
  unfolding tentative_at shown_trial
  put_there a q idle p h e = T.there p h e
  put_there a q (slab c m) p h e = go (eq? p a)
    where
      go : (p ≡ a) ⊎ (p ≢ a) → ⊥
      go (inl z) = never (cc (sym (upd_same (shown_page w s) a _) ∙ (rw z at e)))
      go (inr d) = T.there p h (sym (upd_other (shown_page w s) a _ p d) ∙ e)
  put_there a q (taken n) p h e = T.there p h e
  put_there a q inside p h e = T.there p h e
  put_there a q edge p h e = T.there p h e

  pub trying_next : (off : ℕ) → verdict (tried (shown_trial w s) off) ≡ granted → Trying w (put_mark false w s off)
  unfolding tentative shown_trial
  trying_next off g = record {
    has_room = put_room w s T.has_room T.ok off;
    ok = next_ok w s T.has_room T.ok off g;
    there = λ p h e.
        put_there (off / 4096) (off % 4096) (shown_page w s (off / 4096)) p (rw (ap (page_count w) (put-length off)) at h)
        (sym (ap (λ (t : Trial). t.page p) (put-shown w s T.has_room T.ok off g)) ∙ e);
    few = rw (ap (page_count w) (put-length off)) T.few;
  }

  -- a step taken back
  pub taken_back : (off : ℕ) → verdict (tried (shown_trial w s) off) ≡ granted → offset_put true w (put_mark false w s off) (pages_in w s) off ≡ s
  taken_back off g =
      let next : Trying w (put_mark false w s off) = trying_next off g in
      let same : pages_in w (put_mark false w s off) ≡ pages_in w s = ap (page_count w) (put-length off) in
      ap (λ (P : ℕ). offset_put true w (put_mark false w s off) P off) (sym same)
      ∙ put_is true w (put_mark false w s off) next.ok off (rw same (granted_there off g)) next.few
      ∙ mark-back w s T.has_room T.ok off g
