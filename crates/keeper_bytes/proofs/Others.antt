-- A request leaves the live blocks of others alone, on bytes.
use mathlib.Core.Path.{◌≡◌, refl, sym, ap, ◌∙◌, subst}
use mathlib.Core.Logic.{inl, inr, ◌≢◌}
use mathlib.Core.Option.{none}
use mathlib.Core.List.{List}
use Prim.Native.Nat.{ℕ, ◌+◌, ◌≤◌, ◌<◌}
use native.Mathlib.Omega.{arith}
use lib.Dec.{eqb, leb, ltb}
use lib.ListN.{length, get_or}
use borrow.Author.Tests.{eqb-false, ltb-true, ltb-false, leb-false, ne_eqb}
use Rattle.base.specs.Tests.{pick}
use Rattle.base.proofs.Cases.{Out}
use Rattle.words.specs.Word.{Bytes}
use Rattle.records.specs.Layout.{pages_from, page_count}
use Rattle.copying.proofs.Laws.{length-lay, lay-outside}
use Rattle.model.specs.State.{State}
use Rattle.model.specs.Calls.{Call, Alloc, Free, Answer, at, freed, no, step}
use Rattle.model.specs.Live.{Block, offset, extent, Off, Live}
use Rattle.rules.specs.Bytes.{broken_rule, read}
use Rattle.drawing.proofs.Laws.{claims as laws-of}
use Rattle.demands.specs.Calls.{outcome, after}
use Rattle.demands.specs.Demands.{Demand2}
use Rattle.demands.proofs.Demands.{all-demands}
use Rattle.keeper_model.specs.Store.{is_empty, slot}
use Rattle.keeper_model.specs.Directory.{Sound}
use Rattle.keeper_model.specs.Requests.{Request, Put, Find, Remove, place_for}
use Rattle.keeper_model.specs.Turns.{Full}
use Rattle.keeper_model.proofs.Pool.{Spares, live-kept, new_apart, never_freed, refused_for_room}
use Rattle.keeper_model.proofs.Lookup.{slot-holds}
use Rattle.keeper_model.proofs.Put.{Place, place_for_lem}
use Rattle.keeper_words.specs.Words.{entries}
use Rattle.keeper_bytes.specs.Requests.{pages_begin, store_of, Left, record_laid, old_freed, put_granted, put_answered, put_left, find_left, remove_left}
use Rattle.keeper_bytes.specs.Turns.{ask_left, request, Allowed}
use Rattle.keeper_bytes.specs.Claim.{LeftAlone}
use Rattle.keeper_bytes.proofs.Meeting.{picked, room_counts, both_sound_lem, taken, middle}

module _ (w : ℕ) (lo : 2 ≤ w) (hi : w ≤ 255) (s d : List ℕ) (bs : Bytes s) (sound : broken_rule w s ≡ 0) (S : Sound (store_of w s d))
    (e : Block) (live : Live (read w s).page e) (other : (i : ℕ) → Full (store_of w s d) i → (entries d i).off ≢ offset e) where
  unchanged : LeftAlone w s e s
  unchanged = record { live = live; same_bytes = λ j a b. refl }

  -- a call of the pool
  call_alone : (t : List ℕ) → Bytes t → broken_rule w t ≡ 0 → length t ≡ length s → LeftAlone w s e t → (call : Call) → Spares call (offset e) → LeftAlone w s e (after w t call)
  call_alone t bt ok same L call spared = record {
    live = new;
    same_bytes = λ j a b.
        ap (λ (n : ℕ). get_or (after w t call) (n + j) 0) (sym z) ∙ D2.untouched call e L.live new j a b
        ∙ ap (λ (n : ℕ). get_or t (n + j) 0) z ∙ L.same_bytes j a b;
  }
    where
      D2 : Demand2 w t ok
      D2 = (all-demands w lo hi t bt).demand2 ok

      z : pages_begin w t ≡ pages_begin w s
      z = ap (λ (n : ℕ). pages_from w (page_count w n)) same

      new : Live (read w (after w t call)).page e
      new = subst (λ (m : State). Live m.page e) (sym (D2.state call)) (live-kept (read w t) ((laws-of w lo hi t bt).sound-fits ok).well call e spared L.live)

  alloc_alone : (n : ℕ) → LeftAlone w s e (after w s (Alloc n))
  alloc_alone n = call_alone s bs sound refl unchanged (Alloc n) tt

  module _ (key : ℕ) (key16 : key < 65536) (r : List ℕ) (br : Bytes r) (pos : 1 ≤ length r) (short : length r ≤ 65535)
      (i : ℕ) (inside : i < length d) (place : Place (store_of w s d) key i) where
    module _ (off : ℕ) (ok : (step (read w s) (Alloc (length r))).answer ≡ at off) where
      abbrev s1 : List ℕ
      s1 = after w s (Alloc (length r))

      copy_alone : LeftAlone w s e (record_laid s1 (pages_begin w s + off) r)
      copy_alone = record {
        live =
            subst (λ (m : State). Live m.page e)
            ((taken w lo hi s d bs sound S key key16 r br pos short i inside place off ok).state
            ∙ sym (middle w lo hi s d bs sound S key key16 r br pos short i inside place off ok).state)
            (alloc_alone (length r)).live;
        same_bytes = λ j a b.
            lay-outside (pages_begin w s + off) 0 r (length r) s1 (pages_begin w s + j) (go j a b (new_apart (read w s) S.pool (length r) off ok e live))
            ∙ (alloc_alone (length r)).same_bytes j a b;
      }
        where
          go : (j : ℕ) → offset e ≤ j → j < offset e + extent e → Off e off (length r) → Out (pages_begin w s + off) (length r) (pages_begin w s + j)
          go j a b (inl h) = inl (omega arith)
          go j a b (inr h) = inr (omega arith)

      granted_alone : LeftAlone w s e (old_freed w (record_laid s1 (pages_begin w s + off) r) (entries d i))
      unfolding old_freed is_empty
      granted_alone =
          picked (LeftAlone w s e) (eqb (entries d i).len 0) (λ _. copy_alone)
          (λ q. let n : (entries d i).len ≢ 0 = eqb-false _ _ q in
          let M = middle w lo hi s d bs sound S key key16 r br pos short i inside place off ok in
          call_alone (record_laid s1 (pages_begin w s + off) r) M.holds-bytes M.sound
          (length-lay (pages_begin w s + off) 0 r (length r) s1 ∙ (all-demands w lo hi s bs).demand1.length-kept (Alloc (length r)))
          copy_alone (Free (entries d i).off) (λ z. other i (inside, omega arith) (sym z)))

    answered_alone : (a : Answer) → (step (read w s) (Alloc (length r))).answer ≡ a → LeftAlone w s e (put_answered w s d i key r (outcome a)).pool
    unfolding put_answered put_granted pick
    answered_alone (at off) z = granted_alone off z
    answered_alone (freed n) z = absurd (never_freed (read w s) S.pool (length r) n z)
    answered_alone (no k) z = rw (ne_eqb k 0 (room_counts k (refused_for_room (read w s) S.pool (length r) k pos z))) (alloc_alone (length r))

  abbrev P : Left → Type 0
  P l = LeftAlone w s e l.pool

  put_alone : (key : ℕ) → key < 65536 → (r : List ℕ) → Bytes r → LeftAlone w s e (put_left w s d key r).pool
  unfolding put_left
  put_alone key key16 r br =
      rw (both_sound_lem w lo hi s d bs sound S, ((all-demands w lo hi s bs).demand2 sound).answer (Alloc (length r)))
      (unfold pick in
      (picked P (eqb (length r) 0) (λ _. unchanged)
      (λ x. let n : length r ≢ 0 = eqb-false _ _ x in
      picked P (ltb 65535 (length r)) (λ _. unchanged)
      (λ y. let m : length r ≤ 65535 = ltb-false _ _ y in
      picked P (leb (length d) (place_for (store_of w s d) key)) (λ _. unchanged)
      (λ g. let l : place_for (store_of w s d) key < length d = leb-false _ _ g in
      answered_alone key key16 r br (omega arith) m (place_for (store_of w s d) key) l (place_for_lem (store_of w s d) key l) (step (read w s) (Alloc (length r))).answer refl)))))

  find_alone : (key : ℕ) → LeftAlone w s e (find_left w s d key).pool
  unfolding find_left
  find_alone key =
      rw (both_sound_lem w lo hi s d bs sound S)
      (unfold pick in (picked P (ltb (slot (store_of w s d) key) (length d)) (λ _. unchanged) (λ _. unchanged)))

  remove_alone : (key : ℕ) → LeftAlone w s e (remove_left w s d key).pool
  unfolding remove_left
  remove_alone key =
      rw (both_sound_lem w lo hi s d bs sound S)
      (unfold pick in
      (picked P (ltb (slot (store_of w s d) key) (length d))
      (λ x. let (l, h, k) = slot-holds (store_of w s d) key (ltb-true _ _ x) in
      call_alone s bs sound refl unchanged (Free (entries d (slot (store_of w s d) key)).off) (λ z. other (slot (store_of w s d) key) (l, h) (sym z)))
      (λ _. unchanged)))

  pub others-bytes : (q : Request) → Allowed w (record { pool = s; words = d; map = λ key. none }) (request q) → LeftAlone w s e (ask_left w s d q).pool
  unfolding ask_left Allowed
  others-bytes (Put key r) h = put_alone key h.0 r h.1
  others-bytes (Find key) h = find_alone key
  others-bytes (Remove key) h = remove_alone key
