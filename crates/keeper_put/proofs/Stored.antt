-- What the functions leave, on a sound pool and a sound directory, is what the definitions say.
use Rattle.std.specs.Prelude.{Result, Ok, Err}
use mathlib.Core.Path.{◌≡◌, refl, sym, ap, ◌∙◌, subst}
use mathlib.Core.List.{List}
use Prim.Native.Nat.{ℕ, ◌+◌, ◌≤◌, ◌<◌}
use lib.ListN.{length}
use Rattle.base.specs.Tests.{pick}
use Rattle.words.specs.Word.{Bytes}
use Rattle.records.specs.Layout.{pages_from, page_count}
use Rattle.copying.proofs.Laws.{length-lay}
use Rattle.answers.specs.Outcome.{Outcome, granted, refused, of_alloc}
use Rattle.answers.specs.declared.Offset.{Offset}
use Rattle.answers.specs.declared.Refusal.{Refusal}
use Rattle.answers.proofs.Refusals.{number_counts}
use Rattle.model.specs.Calls.{Alloc, Answer, at, freed, no, step}
use Rattle.model.specs.WellFormed.{WellFormed}
use Rattle.rules.specs.Bytes.{pages_in, broken_rule, read}
use Rattle.classes.specs.Mirror.{Whole}
use Rattle.alloc_sound.specs.Mirror.{alloc_outcome, alloc_slice}
use Rattle.free_sound.specs.Mirror.{free_slice}
use Rattle.demands.specs.Calls.{outcome, answered, after}
use Rattle.demands.proofs.Calls.{demand1, sound-answer}
use Rattle.demands.proofs.Steps.{free_met}
use Rattle.sound_pools.specs.Sound.{Validated}
use Rattle.sound_pools.proofs.Calls.{fits}
use Rattle.sound_pools.proofs.Validated.{whole, alloc_does, valid_after}
use Rattle.keeper_model.specs.Store.{Entry, is_empty}
use Rattle.keeper_model.specs.Directory.{Sound}
use Rattle.keeper_model.specs.Requests.{place_for}
use Rattle.keeper_model.proofs.Directory.{test_says}
use Rattle.keeper_model.proofs.Pool.{never_freed, refused_for_room}
use Rattle.keeper_model.proofs.Put.{Place, place_for_lem}
use Rattle.keeper_words.specs.Words.{entries}
use Rattle.keeper_bytes.specs.Requests.{pages_begin, store_of, Left, record_laid, old_freed, put_granted, put_answered}
use Rattle.keeper_bytes.proofs.Meeting.{room_counts, ends, middle}
use Rattle.keeper_put.specs.Mirror.{Ready, Putting, Roomy, old_given, stored_pool, stored_words}

-- the old block, on a sound pool
old_met : (w : ℕ) → 2 ≤ w → w ≤ 255 → (s : List ℕ) → Bytes s → broken_rule w s ≡ 0 → (pages : ℕ) → pages ≡ pages_in w s → (e : Entry) → old_given w s pages e ≡ old_freed w s e
unfolding old_given old_freed
old_met w lo hi s B sound pages p e =
    ap (λ (u : List ℕ). pick (is_empty e) s u) (ap (λ (n : ℕ). free_slice w s n e.off) p ∙ (free_met w lo hi s B sound e.off).1)

module _ {w : ℕ} {s d : List ℕ} {pages : ℕ} (R : Ready w s d pages) where
  G : Validated w s pages
  G = R.validated

  pub both-ready : Sound (store_of w s d)
  both-ready =
      let well : WellFormed (read w s) = (fits w s G.pool).well in
      record { pool = well; directory = (test_says (store_of w s d) well).0 R.directory }

  -- what the alloc answers and leaves
  pub taken_met : (n : ℕ) {o : Outcome} {t : List ℕ} → o ≡ alloc_outcome w s pages n → t ≡ alloc_slice w s pages n →
      (o ≡ answered w s (Alloc n)) × (t ≡ after w s (Alloc n))
  taken_met n a b = let M = alloc_does G n in (a ∙ M.0, b ∙ M.1)

  pub taken_whole : (n : ℕ) → Whole w (after w s (Alloc n)) pages
  taken_whole n = whole (valid_after G (Alloc n))

  module _ {i key : ℕ} {r : List ℕ} (P : Putting w s d i key r) (key16 : key < 65536) (br : Bytes r) where
    abbrev o : Outcome
    o = answered w s (Alloc (length r))

    abbrev left : Left
    left = put_answered w s d i key r o

    place : Place (store_of w s d) key i
    place =
        let e : i ≡ place_for (store_of w s d) key = P.place in
        subst (Place (store_of w s d) key) (sym e) (place_for_lem (store_of w s d) key (subst (λ (k : ℕ). k < length d) e P.inside))

    -- granted at an offset, the model says so
    answered-at : (off : ℕ) → granted off ≡ o → (step (read w s) (Alloc (length r))).answer ≡ at off
    answered-at off e = go (step (read w s) (Alloc (length r))).answer refl (e ∙ sound-answer w G.pool.wide G.pool.narrow s G.pool.bytes G.pool.sound (Alloc (length r)))
      where
        go : (a : Answer) → (step (read w s) (Alloc (length r))).answer ≡ a → granted off ≡ outcome a → (step (read w s) (Alloc (length r))).answer ≡ at off
        go (at x) z h = z ∙ ap (λ (y : ℕ). at y) (sym (ap (λ (q : Outcome). q.value) h))
        go (freed k) z h = absurd (never_freed (read w s) both-ready.pool (length r) k z)
        go (no k) z h =
            absurd (room_counts k (refused_for_room (read w s) both-ready.pool (length r) k P.some z) (sym (ap (λ (q : Outcome). q.number) h)))

    granted-left : (off : ℕ) → granted off ≡ o → left ≡ put_granted w s d i key r off
    unfolding put_answered pick
    granted-left off e = subst (λ (q : Outcome). put_answered w s d i key r q ≡ put_granted w s d i key r off) e refl

    refused-left : (x : Refusal) → refused x ≡ o → left ≡ record { outcome = refused x; pool = after w s (Alloc (length r)); words = d }
    unfolding put_answered pick
    refused-left x e =
        subst (λ (q : Outcome). put_answered w s d i key r q ≡ record { outcome = refused x; pool = after w s (Alloc (length r)); words = d }) e
        (rw (number_counts x))

    -- the copy fits
    pub roomy : (a : Result Offset Refusal) → of_alloc a ≡ o → Roomy (pages_from w pages) (length r) (length (after w s (Alloc (length r)))) a
    roomy (Ok off) e =
        let l : pages_begin w s + off.0 + length r ≤ length (after w s (Alloc (length r))) =
        ends w G.pool.wide G.pool.narrow s d G.pool.bytes G.pool.sound both-ready key key16 r br P.some P.short i P.inside place off.0 (answered-at off.0 e) in
        subst (λ (n : ℕ). pages_from w n + off.0 + length r ≤ length (after w s (Alloc (length r)))) (sym G.counted) l
    roomy (Err x) e = tt

    old_block : (off : ℕ) → granted off ≡ o →
        old_given w (record_laid (after w s (Alloc (length r))) (pages_from w pages + off) r) pages (entries d i) ≡
        old_freed w (record_laid (after w s (Alloc (length r))) (pages_begin w s + off) r) (entries d i)
    old_block off e =
        let M =
        middle w G.pool.wide G.pool.narrow s d G.pool.bytes G.pool.sound both-ready key key16 r br P.some P.short i P.inside place off (answered-at off e) in
        ap (λ (n : ℕ). old_given w (record_laid (after w s (Alloc (length r))) (pages_from w n + off) r) pages (entries d i)) G.counted
        ∙ old_met w G.pool.wide G.pool.narrow T M.holds-bytes M.sound pages (G.counted ∙ ap (page_count w) (sym same)) (entries d i)
      where
        T : List ℕ
        T = record_laid (after w s (Alloc (length r))) (pages_begin w s + off) r

        same : length T ≡ length s
        same = length-lay (pages_begin w s + off) 0 r (length r) (after w s (Alloc (length r))) ∙ (demand1 w G.pool.wide G.pool.narrow s G.pool.bytes).length-kept (Alloc (length r))

    pub put_met : (a : Result Offset Refusal) → of_alloc a ≡ o →
        (of_alloc a ≡ left.outcome) × (stored_pool w (after w s (Alloc (length r))) pages d i r a ≡ left.pool) × (stored_words d i key r a ≡ left.words)
    unfolding put_granted
    put_met (Ok off) e =
        let l = granted-left off.0 e in
        (sym (ap (λ (x : Left). x.outcome) l), old_block off.0 e ∙ sym (ap (λ (x : Left). x.pool) l), sym (ap (λ (x : Left). x.words) l))
    put_met (Err x) e =
        let l = refused-left x e in
        (sym (ap (λ (x : Left). x.outcome) l), sym (ap (λ (x : Left). x.pool) l), sym (ap (λ (x : Left). x.words) l))
