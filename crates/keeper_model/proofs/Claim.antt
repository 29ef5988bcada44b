-- The statements of `specs/Claim.antt`, proved.
use mathlib.Core.Path.{◌≡◌, refl, sym, ap, ◌∙◌}
use mathlib.Core.Logic.{◌⊎◌, inl, inr, ◌≢◌}
use mathlib.Core.Bool.{false, cond}
use mathlib.Core.Option.{Option, none, some}
use mathlib.Core.List.{List, [], ◌∷◌}
use Prim.Native.Nat.{ℕ, ◌+◌, ◌≤◌, ◌<◌}
use native.Mathlib.Omega.{arith}
use lib.Dec.{eqb, leb, ltb}
use lib.ListN.{length}
use borrow.Author.Tests.{eqb-false}
use Rattle.base.specs.Functions.{upd}
use Rattle.base.proofs.Cases.{never, eq?, cond_case}
use Rattle.base.proofs.Functions.{upd_same, upd_other}
use Rattle.model.specs.State.{State}
use Rattle.model.specs.WellFormed.{WellFormed}
use Rattle.model.specs.Calls.{Call, Alloc, Free, Answer, at, freed, no, no_room, step}
use Rattle.model.specs.Live.{Block, offset, extent, Live}
use Rattle.model.proofs.Claim.{claims}
use Rattle.keeper_model.specs.Store.{Store, is_empty, slot, has_empty, record_in}
use Rattle.keeper_model.specs.Directory.{Sound, directory_ok}
use Rattle.keeper_model.specs.Requests.{Request, Put, Find, Remove, refused, Outcome, not_sound, empty_record, too_long, no_place, refuse, with_state, place_for, stored, replaced, put_in, put, find, removed, remove, ask}
use Rattle.keeper_model.specs.Turns.{Map, noted, lookup, keeper, others, bytes, Full, Fair, played, heard, World, next, run_from, AllFair, begin}
use Rattle.keeper_model.specs.Ruling.{find_ruling, remove_ruling, put_ruling, Agrees}
use Rattle.keeper_model.specs.Claim.{TurnsKeep, MapKept, BlocksFair, Refusals, OthersBytes, Faithful, AsAMap, AsAMapFrom, Claims}
use Rattle.keeper_model.proofs.Bytes.{bytes_ext}
use Rattle.keeper_model.proofs.Pool.{Spares, live-kept, never_freed, refused_for_room}
use Rattle.keeper_model.proofs.Directory.{blank_ok, test_says}
use Rattle.keeper_model.proofs.Lookup.{Holder, NoHolder, holder?, lookup-none}
use Rattle.keeper_model.proofs.Changes.{call-sound}
use Rattle.keeper_model.proofs.Put.{Place, put_case, put-sound, copy_off, put_other, put_same, put-ruled}
use Rattle.keeper_model.proofs.Remove.{find_case, remove_case, find-ruled, remove-ruled, removed-sound, removed_other, removed_same}
use Rattle.keeper_model.proofs.Examples.{examples_hold}

-- ---- soundness

pub fair_spares : (w : Store) (call : Call) → Fair w (others call) → (i : ℕ) → Full w i → Spares call (w.entry i).off
unfolding Fair
fair_spares w (Alloc n) fair i f = tt
fair_spares w (Free off) fair i f = fair i f

put_keeps : (w : Store) → Sound w → (key : ℕ) → key < 65536 → (r : List ℕ) → Sound (put w key r).after
put_keeps w S key key16 r =
    put_case w key (λ (o : Outcome). Sound o.after) r S (λ _. S) (λ _. S) (λ _ _ _ _. S)
    (λ pos short i l pl. go pos short i l pl (step w.state (Alloc (length r))).answer refl)
  where
    go : 1 ≤ length r → length r ≤ 65535 → (i : ℕ) → i < w.places → Place w key i → (a : Answer) → (step w.state (Alloc (length r))).answer ≡ a →
        Sound (put_in w i key r a (step w.state (Alloc (length r))).after).after
    go pos short i l pl (at off) e = unfold put_in in (put-sound w S key key16 r pos short i l pl off e)
    go pos short i l pl (freed n) e = absurd (never_freed w.state S.pool (length r) n e)
    go pos short i l pl (no k) e = unfold put_in in (call-sound w S (Alloc (length r)) (λ _ _. tt))

pub turns-keep : TurnsKeep
unfolding played ask Fair
turns-keep w S (keeper (Put key r)) fair = put_keeps w S key fair r
turns-keep w S (keeper (Find key)) fair = find_case w S key (λ (o : Outcome). Sound o.after) (λ _. S) (λ _. S)
turns-keep w S (keeper (Remove key)) fair =
    remove_case w S key (λ (o : Outcome). Sound o.after) (λ _. S) (λ h. removed-sound w S key (slot w key) h)
turns-keep w S (others call) fair = call-sound w S call (fair_spares w call fair)
turns-keep w S (bytes b) fair = record { pool = S.pool; directory = S.directory }

-- ---- the map

-- one key has a new value, and the others theirs
agrees_changed : (m : Map) (v : Store) (key : ℕ) (x : Option (List ℕ)) → lookup v key ≡ x → ((k : ℕ) → k ≢ key → lookup v k ≡ m k) → Agrees (upd m key x) v
agrees_changed m v key x e h k = go (eq? k key)
  where
    go : (k ≡ key) ⊎ (k ≢ key) → lookup v k ≡ upd m key x k
    go (inl p) = rw (p, upd_same m key x) e
    go (inr p) = rw (upd_other m key x k p) (h k p)

-- the pool's state is not looked at
state_held : (w : Store) (s : State) (k : ℕ) → lookup (with_state w s) k ≡ lookup w k
unfolding lookup slot record_in
state_held w s k = refl

put-agrees : (w : Store) → Sound w → (m : Map) → Agrees m w → (key : ℕ) → key < 65536 → (r : List ℕ) → Agrees (noted m (Put key r) (put w key r).result) (put w key r).after
unfolding noted
put-agrees w S m A key key16 r =
    put_case w key (λ (o : Outcome). Agrees (noted m (Put key r) o.result) o.after) r S (λ _. A) (λ _. A) (λ _ _ _ _. A)
    (λ pos short i l pl. go pos short i l pl (step w.state (Alloc (length r))).answer refl)
  where
    go : 1 ≤ length r → length r ≤ 65535 → (i : ℕ) → i < w.places → Place w key i → (a : Answer) → (step w.state (Alloc (length r))).answer ≡ a →
        Agrees (noted m (Put key r) (put_in w i key r a (step w.state (Alloc (length r))).after).result) (put_in w i key r a (step w.state (Alloc (length r))).after).after
    go pos short i l pl (at off) e =
        unfold put_in in
        (agrees_changed m (replaced (w.entry i) (stored w (step w.state (Alloc (length r))).after i key r off)) key (some r)
        (put_same w S key key16 r pos short i l pl off e) (λ k d. put_other w S key key16 r pos short i l pl off e k d ∙ A k))
    go pos short i l pl (freed n) e = absurd (never_freed w.state S.pool (length r) n e)
    go pos short i l pl (no k) e = unfold put_in in (λ j. state_held w (step w.state (Alloc (length r))).after j ∙ A j)

bytes_held : (w : Store) (b : ℕ → ℕ) → Fair w (bytes b) → (k : ℕ) → lookup (record { state = w.state; bytes = b; places = w.places; entry = w.entry }) k ≡ lookup w k
unfolding lookup slot record_in Fair
bytes_held w b fair k = go (holder? w k)
  where
    go : Holder w k (slot w k) ⊎ NoHolder w k → lookup (record { state = w.state; bytes = b; places = w.places; entry = w.entry }) k ≡ lookup w k
    go (inl (l, h, e)) =
        ap (λ (x : List ℕ). cond (ltb (slot w k) w.places) (some x) none)
        (bytes_ext b w.bytes (w.entry (slot w k)).off (w.entry (slot w k)).len (fair (slot w k) (l, h)))
    go (inr n) = lookup-none (record { state = w.state; bytes = b; places = w.places; entry = w.entry }) k n ∙ sym (lookup-none w k n)

pub map-kept : MapKept
unfolding played heard ask Fair
map-kept w S m A (keeper (Put key r)) fair = put-agrees w S m A key fair r
map-kept w S m A (keeper (Find key)) fair =
    unfold noted in (find_case w S key (λ (o : Outcome). Agrees (noted m (Find key) o.result) o.after) (λ _. A) (λ _. A))
map-kept w S m A (keeper (Remove key)) fair =
    unfold noted in
    (remove_case w S key (λ (o : Outcome). Agrees (noted m (Remove key) o.result) o.after) (λ _. A)
    (λ h. agrees_changed m (removed w (slot w key)) key none (removed_same w S key (slot w key) h) (λ k d. removed_other w S key (slot w key) h k d ∙ A k)))
map-kept w S m A (others call) fair = λ k. state_held w (step w.state call).after k ∙ A k
map-kept w S m A (bytes b) fair = λ k. bytes_held w b fair k ∙ A k

pub blocks_fair : BlocksFair
unfolding Fair
blocks_fair w S b h i (l, f) j u v = let (e, live, o, n) = S.directory.in_blocks i l f in h e live j (omega arith) (omega arith)

-- ---- refusals

module _ (w : Store) (wf : WellFormed w.state) where
  abbrev a : List ℕ → Answer
  a r = (step w.state (Alloc (length r))).answer

  abbrev s : List ℕ → State
  s r = (step w.state (Alloc (length r))).after

  no_change : (q : Request) (k : ℕ) → (ask w q).result ≡ refused k → k ≢ no_room → (ask w q).after ≡ w
  unfolding ask put find remove
  no_change (Put key r) k =
      let P : Outcome → Type 0 = λ o. o.result ≡ refused k → k ≢ no_room → o.after ≡ w in
      cond_case P (directory_ok w.state w.places w.entry)
      (λ _. cond_case P (eqb (length r) 0) (λ _ _ _. refl)
      (λ z. cond_case P (ltb 65535 (length r)) (λ _ _ _. refl)
      (λ _. cond_case P (leb w.places (place_for w key)) (λ _ _ _. refl) (λ _. go (eqb-false _ _ z) (place_for w key) (a r) refl))))
      (λ _ _ _. refl)
    where
      go : length r ≢ 0 → (i : ℕ) (b : Answer) → a r ≡ b → (put_in w i key r b (s r)).result ≡ refused k → k ≢ no_room → (put_in w i key r b (s r)).after ≡ w
      go z i (at off) e h d = absurd (unfold put_in in (never (cc h)))
      go z i (freed n) e h d = absurd (never_freed w.state wf (length r) n e)
      go z i (no j) e h d = absurd (unfold put_in in (d (cc (h, refused_for_room w.state wf (length r) j (omega arith) e))))
  no_change (Find key) k =
      let P : Outcome → Type 0 = λ o. o.result ≡ refused k → k ≢ no_room → o.after ≡ w in
      cond_case P (directory_ok w.state w.places w.entry)
      (λ _. cond_case P (ltb (slot w key) w.places) (λ _ _ _. refl) (λ _ _ _. refl))
      (λ _ _ _. refl)
  no_change (Remove key) k =
      let P : Outcome → Type 0 = λ o. o.result ≡ refused k → k ≢ no_room → o.after ≡ w in
      cond_case P (directory_ok w.state w.places w.entry)
      (λ _. cond_case P (ltb (slot w key) w.places) (λ _ h _. absurd (never (cc))) (λ _ _ _. refl))
      (λ _ _ _. refl)

  as_alloc : (key : ℕ) (r : List ℕ) → (ask w (Put key r)).result ≡ refused no_room → (ask w (Put key r)).after ≡ with_state w (s r)
  unfolding ask put not_sound empty_record too_long no_place no_room
  as_alloc key r =
      let P : Outcome → Type 0 = λ o. o.result ≡ refused 4 → o.after ≡ with_state w (s r) in
      cond_case P (directory_ok w.state w.places w.entry)
      (λ _. cond_case P (eqb (length r) 0) (λ _ h. other 10 h (omega arith))
      (λ _. cond_case P (ltb 65535 (length r)) (λ _ h. other 12 h (omega arith))
      (λ _. cond_case P (leb w.places (place_for w key)) (λ _ h. other 17 h (omega arith)) (λ _. go (place_for w key) (a r) refl))))
      (λ _ h. other 3 h (omega arith))
    where
      other : (k : ℕ) → refused k ≡ refused 4 → k ≢ 4 → w ≡ with_state w (s r)
      other k h d = absurd (d (cc))

      go : (i : ℕ) (b : Answer) → a r ≡ b → (put_in w i key r b (s r)).result ≡ refused 4 → (put_in w i key r b (s r)).after ≡ with_state w (s r)
      go i (at off) e h = absurd (unfold put_in in (never (cc h)))
      go i (freed n) e h = unfold put_in in refl
      go i (no j) e h = unfold put_in in refl

  not_sound_lem : directory_ok w.state w.places w.entry ≡ false → (q : Request) → ask w q ≡ refuse w not_sound
  unfolding ask put find remove
  not_sound_lem e (Put key r) = rw e
  not_sound_lem e (Find key) = rw e
  not_sound_lem e (Remove key) = rw e

  pub refusals : Refusals w
  refusals = record { not_sound_lem = not_sound_lem; unchanged = no_change; no_room_lem = as_alloc }

-- ---- others' blocks

module _ (w : Store) (S : Sound w) (e : Block) (live : Live w.state.page e) (other : (i : ℕ) → Full w i → (w.entry i).off ≢ offset e) where
  -- the block lives on in v, and its bytes are those of w
  abbrev Left : Store → Type 0
  Left v = Live v.state.page e × ((j : ℕ) → offset e ≤ j → j < offset e + extent e → v.bytes j ≡ w.bytes j)

  left : Left w
  left = (live, λ j l u. refl)

  put_left : (key : ℕ) → key < 65536 → (r : List ℕ) → Left (put w key r).after
  put_left key key16 r =
      put_case w key (λ (o : Outcome). Left o.after) r S (λ _. left) (λ _. left) (λ _ _ _ _. left)
      (λ pos short i l pl. go pos short i l pl (step w.state (Alloc (length r))).answer refl)
    where
      still : Live (step w.state (Alloc (length r))).after.page e
      still = live-kept w.state S.pool (Alloc (length r)) e tt live

      go : 1 ≤ length r → length r ≤ 65535 → (i : ℕ) → i < w.places → Place w key i → (a : Answer) → (step w.state (Alloc (length r))).answer ≡ a →
          Left (put_in w i key r a (step w.state (Alloc (length r))).after).after
      go pos short i l pl (at off) z =
          unfold put_in replaced is_empty in
          (cond_case Left (eqb (w.entry i).len 0)
          (λ _. (still, copy_off w S key key16 r pos short i l pl off z e live))
          (λ n. let d : (w.entry i).len ≢ 0 = eqb-false _ _ n in (
            live-kept (step w.state (Alloc (length r))).after (claims.calls_keep w.state S.pool (Alloc (length r))).well (Free (w.entry i).off) e
                (λ q. other i (l, omega arith) (sym q)) still,
            copy_off w S key key16 r pos short i l pl off z e live,
          )))
      go pos short i l pl (freed n) z = absurd (never_freed w.state S.pool (length r) n z)
      go pos short i l pl (no k) z = unfold put_in in (still, λ j l u. refl)

  all_left : (q : Request) → Fair w (keeper q) → Left (ask w q).after
  unfolding ask Fair
  all_left (Put key r) fair = put_left key fair r
  all_left (Find key) fair = find_case w S key (λ (o : Outcome). Left o.after) (λ _. left) (λ _. left)
  all_left (Remove key) fair =
      remove_case w S key (λ (o : Outcome). Left o.after) (λ _. left)
      (λ (l, h, k). (live-kept w.state S.pool (Free (w.entry (slot w key)).off) e (λ q. other (slot w key) (l, h) (sym q)) live, λ j l u. refl))

pub others-bytes : OthersBytes
others-bytes w S q fair e live other = let (l, b) = all_left w S e live other q fair in record { live = l; same_bytes = b }

-- ---- lists of turns

pub faithful : (x : World) → Sound x.store → Agrees x.map x.store → Faithful x
faithful x S A = record {
  sound = S;
  agrees = A;
  puts = λ key r.
      put-ruled x.store S key r
      ∙ ap (λ (o : Option (List ℕ)). put_ruling o (has_empty x.store) (step x.store.state (Alloc (length r))).answer (length r)) (A key);
  finds = λ key. find-ruled x.store S key ∙ ap find_ruling (A key);
  removes = λ key. remove-ruled x.store S key ∙ ap remove_ruling (A key);
}

pub as_a_map-from : AsAMapFrom
unfolding run_from next AllFair
as_a_map-from x S A [] fair = faithful x S A
as_a_map-from x S A (t ∷ ts) fair =
    as_a_map-from (next x t) (turns-keep x.store S t fair.0) (map-kept x.store S x.map A t fair.0) ts fair.1

pub as_a_map : AsAMap
unfolding begin
as_a_map P h b n low high ts fair =
    as_a_map-from (begin P b n)
    (record {
      pool = (claims.fresh-pool P h).0;
      directory = blank_ok _ n low high;
    })
    (λ key. lookup-none (begin P b n).store key (λ i (l, x, k). omega arith))
    ts fair

-- ---- all of them

pub all_claims : Claims
all_claims = record {
  test_says = test_says;
  turns-keep = turns-keep;
  map-kept = map-kept;
  blocks_fair = blocks_fair;
  refusals = refusals;
  others-bytes = others-bytes;
  as_a_map = as_a_map;
  as_a_map-from = as_a_map-from;
  examples_hold = examples_hold;
}
