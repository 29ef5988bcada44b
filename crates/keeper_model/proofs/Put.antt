-- A put: where the record goes, that the store stays sound, and what it holds afterwards.
use mathlib.Core.Path.{◌≡◌, refl, sym, ap, ◌∙◌, subst}
use mathlib.Core.Logic.{◌⊎◌, inl, inr, ◌≢◌}
use mathlib.Core.Bool.{true, false, cond, ◌&&◌, not}
use mathlib.Core.Option.{some}
use mathlib.Core.List.{List}
use Prim.Native.Nat.{ℕ, ◌+◌, ◌≤◌, ◌<◌}
use native.Mathlib.Omega.{arith}
use lib.Dec.{eqb, leb, ltb}
use lib.ListN.{length}
use borrow.Author.Tests.{lt-ltb, le-ltb, ltb-true, ltb-false, leb-true, leb-false, eqb-true, eqb-false, eq-eqb, ne_eqb}
use Rattle.base.specs.Functions.{upd}
use Rattle.base.specs.Search.{any}
use Rattle.base.proofs.Cases.{never, eq?, lt?, decided, Out, cond_case}
use Rattle.base.proofs.Functions.{upd_same, upd_other}
use Rattle.base.proofs.Search.{Least, least_spec, any_some, any_at}
use Rattle.model.specs.State.{State}
use Rattle.model.specs.Calls.{Alloc, Free, Answer, at, freed, no, step}
use Rattle.model.specs.Live.{Block, offset, extent, Off, Live}
use Rattle.keeper_model.specs.Store.{Entry, Store, bytes_at, copied, is_empty, slot, first_empty, has_empty, record_in}
use Rattle.keeper_model.specs.Directory.{DirectoryOk, Sound}
use Rattle.keeper_model.specs.Requests.{refused, Outcome, empty_record, too_long, no_place, refuse, place_for, stored, replaced, put_in, put}
use Rattle.keeper_model.specs.Turns.{lookup, Full}
use Rattle.keeper_model.specs.Ruling.{granted, is_new, put_ruling}
use Rattle.keeper_model.proofs.Bytes.{copied_out, copied-back}
use Rattle.keeper_model.proofs.Pool.{call-well, room_kept, new_room, new-offset, new_apart, refused_for_room}
use Rattle.keeper_model.proofs.Directory.{sound_test}
use Rattle.keeper_model.proofs.Lookup.{Holder, NoHolder, slot-holds, slot-none, lookup-none, lookup-some}
use Rattle.keeper_model.proofs.Changes.{pages_ok, call-sound, changed_ok, Changed, other_key}

-- ---- where the record goes

-- place i holds the key, or it is empty and none does
abbrev pub Place : Store → ℕ → ℕ → Type 0
Place w key i = Holder w key i ⊎ ((i < w.places) × ((w.entry i).len ≡ 0) × NoHolder w key)

module _ (w : Store) (key : ℕ) where
  empty_first : Least (λ i. is_empty (w.entry i)) w.places (first_empty w)
  unfolding first_empty
  empty_first = least_spec (λ i. is_empty (w.entry i)) w.places

  pub place_for_lem : place_for w key < w.places → Place w key (place_for w key)
  unfolding place_for is_empty
  place_for_lem = go (lt? (slot w key) w.places)
    where
      go : (slot w key < w.places) ⊎ (w.places ≤ slot w key) →
          cond (ltb (slot w key) w.places) (slot w key) (first_empty w) < w.places → Place w key (cond (ltb (slot w key) w.places) (slot w key) (first_empty w))
      go (inl h) = rw (lt-ltb (slot w key) w.places h) (λ l. inl (slot-holds w key h))
      go (inr h) = rw (le-ltb (slot w key) w.places h) (λ l. inr (l, eqb-true _ _ (empty_first.passes l), slot-none w key h))

  -- no place: the key is new and none is empty
  pub no_place_lem : w.places ≤ place_for w key → NoHolder w key × (has_empty w ≡ false)
  unfolding place_for has_empty
  no_place_lem = go (lt? (slot w key) w.places)
    where
      full : w.places ≤ first_empty w → any (λ i. is_empty (w.entry i)) w.places ≡ false
      full h = decided (any (λ i. is_empty (w.entry i)) w.places) (λ t. let (i, l, e) = any_some (λ i. is_empty (w.entry i)) w.places t in never (cc (e, empty_first.before i (omega arith))))

      go : (slot w key < w.places) ⊎ (w.places ≤ slot w key) →
          w.places ≤ cond (ltb (slot w key) w.places) (slot w key) (first_empty w) → NoHolder w key × (any (λ i. is_empty (w.entry i)) w.places ≡ false)
      go (inl h) = rw (lt-ltb (slot w key) w.places h) (λ l. absurd (omega arith))
      go (inr h) = rw (le-ltb (slot w key) w.places h) (λ l. (slot-none w key h, full l))

  -- the ways of a put on a sound store
  pub put_case : (P : Outcome → Type 0) (r : List ℕ) → Sound w →
      (length r ≡ 0 → P (refuse w empty_record)) →
      (65535 < length r → P (refuse w too_long)) →
      (1 ≤ length r → length r ≤ 65535 → NoHolder w key → has_empty w ≡ false → P (refuse w no_place)) →
      (1 ≤ length r → length r ≤ 65535 → (i : ℕ) → i < w.places → Place w key i →
      P (put_in w i key r (step w.state (Alloc (length r))).answer (step w.state (Alloc (length r))).after)) →
      P (put w key r)
  unfolding put
  put_case P r S a b c d =
      rw (sound_test w S)
      (cond_case P (eqb (length r) 0) (λ e. a (eqb-true _ _ e))
      (λ e. let n : length r ≢ 0 = eqb-false _ _ e in
      cond_case P (ltb 65535 (length r)) (λ f. b (ltb-true _ _ f))
      (λ f. let m : length r ≤ 65535 = ltb-false _ _ f in
      cond_case P (leb w.places (place_for w key))
      (λ g. let (x, y) = no_place_lem (leb-true _ _ g) in c (omega arith) m x y)
      (λ g. d (omega arith) m (place_for w key) (leb-false _ _ g) (place_for_lem (leb-false _ _ g))))))

-- ---- a granted put, in place i

-- freeing the old block changes nothing of what is held
lookup-replaced : (e : Entry) (v : Store) (k : ℕ) → lookup (replaced e v) k ≡ lookup v k
unfolding replaced lookup slot record_in
lookup-replaced e v k = cond_case (λ (u : Store). lookup u k ≡ lookup v k) (is_empty e) (λ _. refl) (λ _. refl)

module _ (w : Store) (S : Sound w) (key : ℕ) (key16 : key < 65536) (r : List ℕ) (pos : 1 ≤ length r) (short : length r ≤ 65535)
    (i : ℕ) (inside : i < w.places) (place : Place w key i) (off : ℕ) (ok : (step w.state (Alloc (length r))).answer ≡ at off) where
  abbrev t : State
  t = (step w.state (Alloc (length r))).after

  abbrev x : Entry
  x = record { key = key; len = length r; off = off }

  abbrev mid : Store
  mid = stored w t i key r off

  K : DirectoryOk w.state.page w.places w.entry
  K = S.directory

  -- no other place has the key
  key-new : (j : ℕ) → j < w.places → 1 ≤ (w.entry j).len → j ≢ i → (w.entry j).key ≢ key
  key-new j l h d z = go place
    where
      go : Place w key i → ⊥
      go (inl (a, b, c)) = d (K.keys_differ j i l a h b (z ∙ sym c))
      go (inr (a, b, c)) = c j (l, h, z)

  -- no place has the new block
  off-new : (j : ℕ) → j < w.places → 1 ≤ (w.entry j).len → (w.entry j).off ≢ off
  off-new j l h z = let (e, live, o, _) = K.in_blocks j l h in new-offset w.state S.pool (length r) off ok e live (o ∙ z)

  pub mid_sound : Sound mid
  mid_sound = record {
    pool = call-well w.state S.pool (Alloc (length r));
    directory =
        changed_ok i x
        (pages_ok K (λ j l h. room_kept w.state S.pool (Alloc (length r)) (w.entry j).off (w.entry j).len tt))
        (record {
          empty = λ z. absurd (omega arith);
          key_fits = key16;
          len-fits = omega arith;
          key-new = λ _. key-new;
          off-new = λ _ j l h d. off-new j l h;
          room = λ _. new_room w.state S.pool (length r) off ok;
        });
  }

  -- the old block is no other place's
  pub old_spared : 1 ≤ (w.entry i).len → (j : ℕ) → Full mid j → (mid.entry j).off ≢ (w.entry i).off
  old_spared old j (l, h) = go (eq? j i)
    where
      go : (j ≡ i) ⊎ (j ≢ i) → (upd w.entry i x j).off ≢ (w.entry i).off
      go (inl p) z = off-new i inside old (sym z ∙ ap (λ (e : Entry). e.off) (ap (upd w.entry i x) p ∙ upd_same w.entry i x))
      go (inr p) z =
          let e : upd w.entry i x j ≡ w.entry j = upd_other w.entry i x j p in
          p (K.offs_differ j i l inside (subst (λ (c : Entry). 1 ≤ c.len) e h) old (sym (ap (λ (c : Entry). c.off) e) ∙ z))

  pub put-sound : Sound (replaced (w.entry i) mid)
  unfolding replaced is_empty
  put-sound =
      cond_case Sound (eqb (w.entry i).len 0) (λ _. mid_sound)
      (λ e. let n : (w.entry i).len ≢ 0 = eqb-false _ _ e in call-sound mid mid_sound (Free (w.entry i).off) (old_spared (omega arith)))

  -- the copy leaves the bytes of every block that was live
  pub copy_off : (e : Block) → Live w.state.page e → (j : ℕ) → offset e ≤ j → j < offset e + extent e → copied w.bytes off r j ≡ w.bytes j
  copy_off e live j l u = copied_out w.bytes off r j (go (new_apart w.state S.pool (length r) off ok e live))
    where
      go : Off e off (length r) → Out off (length r) j
      go (inl h) = inl (omega arith)
      go (inr h) = inr (omega arith)

  changed : Changed w mid key i
  changed = record {
    places = refl;
    others = λ j d. upd_other w.entry i x j d;
    bytes = λ j d (l, h). record {
      entry = upd_other w.entry i x j d;
      bytes = λ a u v. let (e, live, o, n) = K.in_blocks j l h in copy_off e live a (omega arith) (omega arith);
    };
    old_key = λ h. old h place;
    new-key = λ _. ap (λ (e : Entry). e.key) (upd_same w.entry i x);
  }
    where
      old : 1 ≤ (w.entry i).len → Place w key i → (w.entry i).key ≡ key
      old h (inl (a, b, c)) = c
      old h (inr (a, b, c)) = absurd (omega arith)

  pub put_other : (k : ℕ) → k ≢ key → lookup (replaced (w.entry i) mid) k ≡ lookup w k
  put_other k d = lookup-replaced (w.entry i) mid k ∙ other_key mid_sound changed k d

  pub put_same : lookup (replaced (w.entry i) mid) key ≡ some r
  put_same =
      lookup-replaced (w.entry i) mid key
      ∙ lookup-some mid key mid_sound.directory i (inside, subst (λ (e : Entry). 1 ≤ e.len) (sym here) pos, ap (λ (e : Entry). e.key) here)
      ∙ ap (λ (l : List ℕ). some l) written
    where
      here : upd w.entry i x i ≡ x
      here = upd_same w.entry i x

      written : record_in mid i ≡ r
      written = unfold record_in in (ap (λ (e : Entry). bytes_at (copied w.bytes off r) e.off e.len) here ∙ copied-back w.bytes off r)

-- ---- what a put answers

module _ (w : Store) (S : Sound w) (key : ℕ) (r : List ℕ) where
  pub put-ruled : (put w key r).result ≡ put_ruling (lookup w key) (has_empty w) (step w.state (Alloc (length r))).answer (length r)
  unfolding put_ruling
  put-ruled =
      put_case w key (λ (o : Outcome). o.result ≡ put_ruling (lookup w key) (has_empty w) (step w.state (Alloc (length r))).answer (length r)) r S
      (λ e. rw (eq-eqb (length r) 0 e))
      (λ h. rw (ne_eqb (length r) 0 (omega arith), lt-ltb 65535 (length r) h))
      (λ p q n e. rw (ne_eqb (length r) 0 (omega arith), le-ltb 65535 (length r) q, lookup-none w key n, e))
      (λ p q i l pl. rw (ne_eqb (length r) 0 (omega arith), le-ltb 65535 (length r) q, room i l pl) (answered p i (step w.state (Alloc (length r))).answer refl))
    where
      room : (i : ℕ) → i < w.places → Place w key i → is_new (lookup w key) && not (has_empty w) ≡ false
      room i l (inl h) = rw (lookup-some w key S.directory i h)
      room i l (inr (a, b, c)) = rw (lookup-none w key c, free i l b)
        where
          free : (i : ℕ) → i < w.places → (w.entry i).len ≡ 0 → has_empty w ≡ true
          free i l z = unfold has_empty in (any_at (λ i. is_empty (w.entry i)) w.places i l (unfold is_empty in (eq-eqb (w.entry i).len 0 z)))

      answered : 1 ≤ length r → (i : ℕ) (a : Answer) → (step w.state (Alloc (length r))).answer ≡ a → (put_in w i key r a (step w.state (Alloc (length r))).after).result ≡ granted a
      answered p i (at off) e = unfold put_in in refl
      answered p i (freed n) e = unfold put_in in refl
      answered p i (no k) e = unfold put_in in (ap (λ (j : ℕ). refused j) (refused_for_room w.state S.pool (length r) k p e))
