-- Requests on bytes, and others' calls, do to the store that the bytes show what the model does.
use mathlib.Core.Path.{◌≡◌, refl, sym, ap, ◌∙◌, subst}
use mathlib.Core.Logic.{◌⊎◌, inl, inr, ◌≢◌}
use mathlib.Core.Bool.{Bool, true, false, cond}
use mathlib.Core.Option.{none}
use mathlib.Core.List.{List}
use Prim.Native.Nat.{ℕ, ◌+◌, ◌*◌, ◌/◌, ◌%◌, ◌≤◌, ◌<◌}
use native.Mathlib.Omega.{arith}
use lib.Dec.{eqb, leb, ltb}
use lib.ListN.{length, get_or, set, length-set}
use borrow.Author.Tests.{eqb-false, leb-false, ltb-true, ltb-false, eq-eqb, ne_eqb}
use Rattle.base.specs.Functions.{upd}
use Rattle.base.specs.Tests.{pick}
use Rattle.base.proofs.Cases.{eq?}
use Rattle.base.proofs.Functions.{upd_same, upd_other}
use Rattle.words.specs.Word.{Bytes}
use Rattle.records.specs.Layout.{pages_from, page_count}
use Rattle.copying.proofs.Laws.{length-lay, lay-bytes}
use Rattle.answers.specs.Outcome.{number_of}
use Rattle.answers.specs.Outcome.{Outcome as Told}
use Rattle.answers.specs.declared.Refusal.{Refusal}
use Rattle.answers.specs.declared.Refusal.TheVariants.{NothingAsked, WrongLength, NoPlace, NotHeld}
use Rattle.answers.proofs.Refusals.{number_counts}
use Rattle.model.specs.State.{State}
use Rattle.model.specs.Calls.{Call, Alloc, Free, Answer, at, freed, no, no_room, step}
use Rattle.model.specs.Live.{Block, offset, extent, Live}
use Rattle.model.proofs.Classes.{max_pages_lem}
use Rattle.model.proofs.Claim.{claims}
use Rattle.rules.specs.Bytes.{broken_rule, read}
use Rattle.drawing.proofs.Laws.{claims as laws-of}
use Rattle.demands.specs.Calls.{outcome, answered, after}
use Rattle.demands.specs.Demands.{Demands, Demand2}
use Rattle.demands.proofs.Demands.{all-demands}
use Rattle.keeper_model.specs.Store.{Entry, blank, Store, bytes_at, copied, is_empty, slot, record_in}
use Rattle.keeper_model.specs.Directory.{Sound}
use Rattle.keeper_model.specs.Requests.{Request, Put, Find, Remove, found, Outcome, empty_record, too_long, no_place, not_held, refuse, with_state, place_for, stored, replaced, put_in, put, find, removed, remove, ask}
use Rattle.keeper_model.specs.Turns.{others, bytes, Full, Fair, played}
use Rattle.keeper_model.proofs.Pool.{Spares, live-kept, new_room, never_freed, refused_for_room}
use Rattle.keeper_model.proofs.Directory.{sound_test}
use Rattle.keeper_model.proofs.Lookup.{Holder, slot-holds}
use Rattle.keeper_model.proofs.Remove.{emptied, emptied-sound, removed_spared}
use Rattle.keeper_model.proofs.Claim.{fair_spares}
use Rattle.keeper_model.proofs.Put.{Place, place_for_lem, mid_sound, old_spared}
use Rattle.keeper_words.specs.Words.{key_of, len_of, off_of, word_of, entry_of, entries}
use Rattle.keeper_words.proofs.Words.{entry-word, entries-set}
use Rattle.keeper_bytes.specs.Requests.{pages_begin, page_bytes, store_of, both_sound, Left, refuse_left, record_laid, old_freed, put_granted, put_answered, put_left, place_of, find_left, remove_left}
use Rattle.keeper_bytes.specs.Turns.{ask_left, granted_in, result_in, request, Allowed}
use Rattle.keeper_bytes.specs.Claim.{Shows, Meets}
use Rattle.keeper_bytes.proofs.Copy.{copied_at, copied_in, laid_copied, block_ends, copy_sound, copy_read}

-- ---- two choices by one test, and a list of the same length

both : {A B : Type 0} (P : A → B → Type 0) (t : Bool) {a b : A} {c d : B} → (t ≡ true → P a c) → (t ≡ false → P b d) → P (pick t a b) (cond t c d)
unfolding pick
both P true h k = h refl
both P false h k = k refl

pub picked : {A : Type 0} (P : A → Type 0) (t : Bool) {a b : A} → (t ≡ true → P a) → (t ≡ false → P b) → P (pick t a b)
unfolding pick
picked P true h k = h refl
picked P false h k = k refl

begins_same : (w : ℕ) (s t : List ℕ) → length t ≡ length s → pages_begin w t ≡ pages_begin w s
begins_same w s t e = ap (λ (n : ℕ). pages_from w (page_count w n)) e

pub zero-blank : entry_of 0 ≡ blank
unfolding key_of len_of off_of
zero-blank = refl

-- the store that is shown is v after a fair turn of the bytes
pub shown_by_turn : (w : ℕ) (s d : List ℕ) (v : Store) → Shows w s d v → store_of w s d ≡ played v (bytes (page_bytes w s))
unfolding played
shown_by_turn w s d v H = λ i. record {
  state = H.state i;
  bytes = page_bytes w s;
  places = H.places i;
  entry = H.entry i;
}

-- the number of a refusal for room is no grant
pub room_counts : (k : ℕ) → k ≡ no_room → k ≢ 0
unfolding no_room
room_counts k z q = omega arith

module _ (w : ℕ) (lo : 2 ≤ w) (hi : w ≤ 255) where
  -- ---- a call of the pool that spares the keeper's blocks

  pub call-shows : (s d : List ℕ) (v : Store) → Sound v → Shows w s d v → (call : Call) → ((i : ℕ) → Full v i → Spares call (v.entry i).off) →
      Shows w (after w s call) d (with_state v (step v.state call).after)
  unfolding Fair
  call-shows s d v S H call spared = record {
    sound = D2.sound-after call;
    holds-bytes = D.demand1.bytes-kept call;
    state = next;
    places = H.places;
    entry = H.entry;
    records = λ i (l, h) j a b.
        let (e, live, o, n) = S.directory.in_blocks i l h in
        let old : Live (read w s).page e = subst (λ (m : State). Live m.page e) (sym H.state) live in
        let new : Live (read w (after w s call)).page e =
        subst (λ (m : State). Live m.page e) (sym next) (live-kept v.state S.pool call e (subst (Spares call) (sym o) (spared i (l, h))) live) in
        ap (λ (n : ℕ). get_or (after w s call) (n + j) 0) (begins_same w s (after w s call) (D.demand1.length-kept call))
        ∙ D2.untouched call e old new j (omega arith) (omega arith)
        ∙ H.records i (l, h) j a b;
  }
    where
      D : Demands w s
      D = all-demands w lo hi s H.holds-bytes

      D2 : Demand2 w s H.sound
      D2 = D.demand2 H.sound

      next : read w (after w s call) ≡ (step v.state call).after
      next = D2.state call ∙ ap (λ (m : State). (step m call).after) H.state

  -- ---- put

  module _ (s d : List ℕ) (bs : Bytes s) (sound : broken_rule w s ≡ 0) (S : Sound (store_of w s d)) where
    pub itself : Shows w s d (store_of w s d)
    unfolding Fair
    itself = record { sound = sound; holds-bytes = bs; state = refl; places = refl; entry = refl; records = λ i f j a b. refl }

    module _ (key : ℕ) (key16 : key < 65536) (r : List ℕ) (br : Bytes r) (pos : 1 ≤ length r) (short : length r ≤ 65535)
        (i : ℕ) (inside : i < length d) (place : Place (store_of w s d) key i) (off : ℕ) (ok : (step (read w s) (Alloc (length r))).answer ≡ at off) where
      abbrev t : State
      t = (step (read w s) (Alloc (length r))).after

      abbrev s1 : List ℕ
      s1 = after w s (Alloc (length r))

      abbrev x : Entry
      x = record { key = key; len = length r; off = off }

      abbrev mid : Store
      mid = stored (store_of w s d) t i key r off

      pub taken : Shows w s1 d (with_state (store_of w s d) t)
      taken = call-shows s d (store_of w s d) S itself (Alloc (length r)) (λ _ _. tt)

      same : length s1 ≡ length s
      same = (all-demands w lo hi s bs).demand1.length-kept (Alloc (length r))

      M : Sound mid
      M = mid_sound (store_of w s d) S key key16 r pos short i inside place off ok

      -- the new block, in the bytes that alloc left
      new : (e : Block) × Live (read w s1).page e × (offset e ≡ off) × (length r ≤ extent e)
      new = let (e, live, o, n) = new_room (read w s) S.pool (length r) off ok in (e, subst (λ (m : State). Live m.page e) (sym taken.state) live, o, n)

      copy_is : record_laid s1 (pages_begin w s + off) r ≡ record_laid s1 (pages_begin w s1 + offset new.0) r
      copy_is = ap (λ (a : ℕ). record_laid s1 a r) (omega (arith, begins_same w s s1 same, new.2))

      pub ends : pages_begin w s + off + length r ≤ length s1
      ends = omega (arith, block_ends w lo hi s1 taken.holds-bytes taken.sound new.0 new.1, begins_same w s s1 same, new.2, new.3)

      off-fits : off < 4294967296
      off-fits =
          omega (
            arith,
            (claims.placing (read w s1) ((laws-of w lo hi s1 taken.holds-bytes).sound-fits taken.sound).well).within-pages new.0 new.1,
            new.2,
            new.3,
            ((laws-of w lo hi s1 taken.holds-bytes).sound-fits taken.sound).few,
            max_pages_lem.1,
          )

      -- the copy and the word
      pub middle : Shows w (record_laid s1 (pages_begin w s + off) r) (set d i (word_of x)) mid
      unfolding Fair
      middle = record {
        sound = rw copy_is (copy_sound w lo hi s1 taken.holds-bytes taken.sound new.0 new.1 r new.3);
        holds-bytes = lay-bytes (pages_begin w s + off) 0 r (length r) s1 ends br taken.holds-bytes;
        state = rw copy_is (copy_read w lo hi s1 taken.holds-bytes taken.sound new.0 new.1 r new.3) ∙ taken.state;
        places = length-set d i (word_of x);
        entry = entries-set d i (word_of x) inside ∙ ap (λ (y : Entry). upd (entries d) i y) (entry-word x key16 (omega arith) off-fits);
        records = λ k (l, h) j a b.
            ap (λ (n : ℕ). get_or (record_laid s1 (pages_begin w s + off) r) (n + j) 0) (begins_same w s (record_laid s1 (pages_begin w s + off) r) (length-lay (pages_begin w s + off) 0 r (length r) s1 ∙ same))
            ∙ laid_copied (pages_begin w s) s1 off r ends j
            ∙ at_place k l h j a b (eq? k i);
      }
        where
          at_place : (k : ℕ) → k < length d → 1 ≤ (upd (entries d) i x k).len → (j : ℕ) → (upd (entries d) i x k).off ≤ j →
              j < (upd (entries d) i x k).off + (upd (entries d) i x k).len → (k ≡ i) ⊎ (k ≢ i) →
              copied (λ n. get_or s1 (pages_begin w s + n) 0) off r j ≡ copied (page_bytes w s) off r j
          at_place k l h j a b (inl p) =
              let e : upd (entries d) i x k ≡ x = ap (upd (entries d) i x) p ∙ upd_same (entries d) i x in
              copied_in (λ n. get_or s1 (pages_begin w s + n) 0) (page_bytes w s) off r j (subst (λ (y : Entry). y.off ≤ j) e a) (subst (λ (y : Entry). j < y.off + y.len) e b)
          at_place k l h j a b (inr p) =
              let e : upd (entries d) i x k ≡ entries d k = upd_other (entries d) i x k p in
              copied_at (λ n. get_or s1 (pages_begin w s + n) 0) (page_bytes w s) off r j
              (ap (λ (n : ℕ). get_or s1 (n + j) 0) (sym (begins_same w s s1 same))
              ∙ unfold Fair in
              (taken.records k (l, subst (λ (y : Entry). 1 ≤ y.len) e h) j (subst (λ (y : Entry). y.off ≤ j) e a) (subst (λ (y : Entry). j < y.off + y.len) e b)))

      -- the old block
      pub put-shows : Shows w (old_freed w (record_laid s1 (pages_begin w s + off) r) (entries d i)) (set d i (word_of x)) (replaced (entries d i) mid)
      unfolding old_freed replaced is_empty
      put-shows =
          both (λ (p : List ℕ) (v : Store). Shows w p (set d i (word_of x)) v) (eqb (entries d i).len 0) (λ _. middle)
          (λ e. let n : (entries d i).len ≢ 0 = eqb-false _ _ e in
          call-shows (record_laid s1 (pages_begin w s + off) r) (set d i (word_of x)) mid M middle (Free (entries d i).off)
          (old_spared (store_of w s d) S key key16 r pos short i inside place off ok (omega arith)))

    pub both_sound_lem : both_sound w s d ≡ true
    unfolding both_sound pick
    both_sound_lem = rw (eq-eqb (broken_rule w s) 0 sound) (sound_test (store_of w s d) S)

    refused-meets : (q : Request) (r : Refusal) → Meets w s q (refuse_left s d r) (refuse (store_of w s d) (number_of r))
    unfolding result_in pick
    refused-meets q r = record { result = rw (number_counts r); left = itself }

    answered-meets : (key : ℕ) → key < 65536 → (r : List ℕ) → Bytes r → 1 ≤ length r → length r ≤ 65535 → (i : ℕ) → i < length d → Place (store_of w s d) key i →
        (a : Answer) → (step (read w s) (Alloc (length r))).answer ≡ a →
        Meets w s (Put key r) (put_answered w s d i key r (outcome a)) (put_in (store_of w s d) i key r a (step (read w s) (Alloc (length r))).after)
    unfolding put_answered put_granted put_in granted_in result_in pick
    answered-meets key key16 r br pos short i inside place (at off) e =
        record { result = refl; left = put-shows key key16 r br pos short i inside place off e }
    answered-meets key key16 r br pos short i inside place (freed n) e = absurd (never_freed (read w s) S.pool (length r) n e)
    answered-meets key key16 r br pos short i inside place (no k) e =
        let z : k ≡ no_room = refused_for_room (read w s) S.pool (length r) k pos e in
        rw (ne_eqb k 0 (room_counts k z)) (record {
          result = rw (ne_eqb k 0 (room_counts k z));
          left = call-shows s d (store_of w s d) S itself (Alloc (length r)) (λ _ _. tt);
        })

    put_meets : (key : ℕ) → key < 65536 → (r : List ℕ) → Bytes r → Meets w s (Put key r) (put_left w s d key r) (put (store_of w s d) key r)
    unfolding put_left put empty_record too_long no_place
    put_meets key key16 r br =
        rw (both_sound_lem, sound_test (store_of w s d) S, ((all-demands w lo hi s bs).demand2 sound).answer (Alloc (length r)))
        (unfold pick in
        (both M (eqb (length r) 0) (λ _. refused-meets (Put key r) NothingAsked)
        (λ e. let n : length r ≢ 0 = eqb-false _ _ e in
        both M (ltb 65535 (length r)) (λ _. refused-meets (Put key r) WrongLength)
        (λ f. let m : length r ≤ 65535 = ltb-false _ _ f in
        both M (leb (length d) (place_for (store_of w s d) key)) (λ _. refused-meets (Put key r) NoPlace)
        (λ g. let l : place_for (store_of w s d) key < length d = leb-false _ _ g in
        answered-meets key key16 r br (omega arith) m (place_for (store_of w s d) key) l (place_for_lem (store_of w s d) key l) (step (read w s) (Alloc (length r))).answer refl)))))
      where
        M : Left → Outcome → Type 0
        M = Meets w s (Put key r)

    -- ---- find, remove, and others' calls

    -- the bytes where a find says that the record lies are the record's
    found-record : (i : ℕ) → bytes_at (page_bytes w s) (place_of (entries d i) % 4294967296) (place_of (entries d i) / 4294967296) ≡ record_in (store_of w s d) i
    unfolding record_in place_of off_of
    found-record i =
        let n : ℕ = (entries d i).len in
        let o : ℕ = get_or d i 0 in
        let x : (n * 4294967296 + o % 4294967296) % 4294967296 ≡ o % 4294967296 = omega arith in
        let y : (n * 4294967296 + o % 4294967296) / 4294967296 ≡ n = omega arith in
        rw (x, y)

    find-meets : (key : ℕ) → Meets w s (Find key) (find_left w s d key) (find (store_of w s d) key)
    unfolding find_left find not_held
    find-meets key =
        rw (both_sound_lem, sound_test (store_of w s d) S)
        (unfold pick in
        (both (Meets w s (Find key)) (ltb (slot (store_of w s d) key) (length d))
        (λ _. record { result = unfold result_in granted_in pick in (ap (λ (r : List ℕ). found r) (found-record (slot (store_of w s d) key))); left = itself })
        (λ _. refused-meets (Find key) NotHeld)))

    removed-shows : (key i : ℕ) → Holder (store_of w s d) key i → Shows w (after w s (Free (entries d i).off)) (set d i 0) (removed (store_of w s d) i)
    removed-shows key i h =
        call-shows s (set d i 0) (emptied (store_of w s d) S key i h) (emptied-sound (store_of w s d) S key i h)
        (record {
          sound = sound;
          holds-bytes = bs;
          state = refl;
          places = length-set d i 0;
          entry = entries-set d i 0 h.0 ∙ ap (λ (y : Entry). upd (entries d) i y) zero-blank;
          records = unfold Fair in (λ k f j a b. refl);
        })
        (Free (entries d i).off) (removed_spared (store_of w s d) S key i h)

    -- the block of a record is live, so that its free is granted
    pub removed-granted : (key i : ℕ) → Holder (store_of w s d) key i → (answered w s (Free (entries d i).off)).number ≡ 0
    removed-granted key i (l, h, k) =
        let (e, live, o, n) = S.directory.in_blocks i l h in
        ap (λ (a : ℕ). (answered w s (Free a)).number) (sym o) ∙ ap (λ (x : Told). x.number) ((all-demands w lo hi s bs).demand1.free-tells e sound live)

    remove-meets : (key : ℕ) → Meets w s (Remove key) (remove_left w s d key) (remove (store_of w s d) key)
    unfolding remove_left remove not_held
    remove-meets key =
        rw (both_sound_lem, sound_test (store_of w s d) S)
        (unfold pick in
        (both (Meets w s (Remove key)) (ltb (slot (store_of w s d) key) (length d))
        (λ e. let h : Holder (store_of w s d) key (slot (store_of w s d) key) = slot-holds (store_of w s d) key (ltb-true _ _ e) in
        record {
          result = unfold result_in granted_in pick in (rw (removed-granted key (slot (store_of w s d) key) h));
          left = removed-shows key (slot (store_of w s d) key) h;
        })
        (λ _. refused-meets (Remove key) NotHeld)))

    pub meets : (q : Request) → Allowed w (record { pool = s; words = d; map = λ key. none }) (request q) → Meets w s q (ask_left w s d q) (ask (store_of w s d) q)
    unfolding Allowed ask_left ask
    meets (Put key r) h = put_meets key h.0 r h.1
    meets (Find key) h = find-meets key
    meets (Remove key) h = remove-meets key

    pub calls_meet : (call : Call) → Fair (store_of w s d) (others call) → Shows w (after w s call) d (played (store_of w s d) (others call))
    unfolding played
    calls_meet call fair = call-shows s d (store_of w s d) S itself call (fair_spares (store_of w s d) call fair)
