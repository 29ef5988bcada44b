-- Find and remove.
use mathlib.Core.Path.{◌≡◌, refl, sym, ap, ◌∙◌, subst}
use mathlib.Core.Logic.{◌⊎◌, inl, inr, ◌≢◌}
use mathlib.Core.Option.{none}
use Prim.Native.Nat.{ℕ, ◌≤◌}
use native.Mathlib.Omega.{arith}
use lib.Dec.{ltb}
use borrow.Author.Tests.{ltb-true, ltb-false}
use Rattle.base.specs.Functions.{upd}
use Rattle.base.proofs.Cases.{eq?, cond_case}
use Rattle.base.proofs.Functions.{upd_same, upd_other}
use Rattle.model.specs.Calls.{Free}
use Rattle.keeper_model.specs.Store.{Entry, blank, Store, slot, record_in}
use Rattle.keeper_model.specs.Directory.{DirectoryOk, Sound}
use Rattle.keeper_model.specs.Requests.{done, found, Outcome, not_held, refuse, find, removed, remove}
use Rattle.keeper_model.specs.Turns.{lookup, Full}
use Rattle.keeper_model.specs.Ruling.{find_ruling, remove_ruling}
use Rattle.keeper_model.proofs.Directory.{sound_test}
use Rattle.keeper_model.proofs.Lookup.{Holder, NoHolder, slot-holds, slot-none, lookup-none, lookup-slot}
use Rattle.keeper_model.proofs.Changes.{call-sound, changed_ok, Changed, other_key}

-- ---- the ways of a find and of a remove on a sound store

module _ (w : Store) (S : Sound w) (key : ℕ) (P : Outcome → Type 0) (no_key : NoHolder w key → P (refuse w not_held)) where
  pub find_case : (Holder w key (slot w key) → P (record { result = found (record_in w (slot w key)); after = w })) → P (find w key)
  unfolding find
  find_case h =
      rw (sound_test w S)
      (cond_case P (ltb (slot w key) w.places) (λ e. h (slot-holds w key (ltb-true _ _ e))) (λ e. no_key (slot-none w key (ltb-false _ _ e))))

  pub remove_case : (Holder w key (slot w key) → P (record { result = done; after = removed w (slot w key) })) → P (remove w key)
  unfolding remove
  remove_case h =
      rw (sound_test w S)
      (cond_case P (ltb (slot w key) w.places) (λ e. h (slot-holds w key (ltb-true _ _ e))) (λ e. no_key (slot-none w key (ltb-false _ _ e))))

module _ (w : Store) (S : Sound w) (key : ℕ) where
  pub find-ruled : (find w key).result ≡ find_ruling (lookup w key)
  unfolding find_ruling
  find-ruled = find_case w S key (λ (o : Outcome). o.result ≡ find_ruling (lookup w key)) (λ n. rw (lookup-none w key n)) (λ h. rw (lookup-slot w key h))

  pub remove-ruled : (remove w key).result ≡ remove_ruling (lookup w key)
  unfolding remove_ruling
  remove-ruled = remove_case w S key (λ (o : Outcome). o.result ≡ remove_ruling (lookup w key)) (λ n. rw (lookup-none w key n)) (λ h. rw (lookup-slot w key h))

-- ---- place i emptied, its block freed

module _ (w : Store) (S : Sound w) (key i : ℕ) (h : Holder w key i) where
  K : DirectoryOk w.state.page w.places w.entry
  K = S.directory

  here : upd w.entry i blank i ≡ blank
  here = upd_same w.entry i blank

  there : (j : ℕ) → j ≢ i → upd w.entry i blank j ≡ w.entry j
  there j d = upd_other w.entry i blank j d

  -- the place is empty now
  gone : (j : ℕ) → j ≡ i → ¬ (1 ≤ (upd w.entry i blank j).len)
  gone j p l = omega (arith, ap (λ (e : Entry). e.len) (ap (upd w.entry i blank) p ∙ here))

  abbrev pub emptied : Store
  emptied = record { state = w.state; bytes = w.bytes; places = w.places; entry = upd w.entry i blank }

  pub emptied-sound : Sound emptied
  emptied-sound = record {
    pool = S.pool;
    directory = changed_ok i blank K (record {
      empty = λ _. refl;
      key_fits = omega arith;
      len-fits = omega arith;
      key-new = λ l. absurd (omega arith);
      off-new = λ l. absurd (omega arith);
      room = λ l. absurd (omega arith);
    });
  }

  -- the block is no other place's
  pub removed_spared : (j : ℕ) → Full emptied j → (emptied.entry j).off ≢ (w.entry i).off
  removed_spared j (l, u) = go (eq? j i)
    where
      go : (j ≡ i) ⊎ (j ≢ i) → (upd w.entry i blank j).off ≢ (w.entry i).off
      go (inl p) z = gone j p u
      go (inr p) z =
          p (K.offs_differ j i l h.0 (subst (λ (e : Entry). 1 ≤ e.len) (there j p) u) h.1 (sym (ap (λ (e : Entry). e.off) (there j p)) ∙ z))

  pub removed-sound : Sound (removed w i)
  removed-sound = call-sound emptied emptied-sound (Free (w.entry i).off) removed_spared

  changed : Changed w (removed w i) key i
  changed = record {
    places = refl;
    others = there;
    bytes = λ j d f. record { entry = there j d; bytes = λ a u v. refl };
    old_key = λ _. h.2;
    new-key = λ l. absurd (gone i refl l);
  }

  pub removed_other : (k : ℕ) → k ≢ key → lookup (removed w i) k ≡ lookup w k
  removed_other = other_key removed-sound changed

  pub removed_same : lookup (removed w i) key ≡ none
  removed_same = lookup-none (removed w i) key (λ j u. none_left j u (eq? j i))
    where
      none_left : (j : ℕ) → Holder (removed w i) key j → (j ≡ i) ⊎ (j ≢ i) → ⊥
      none_left j (l, u, k) (inl p) = gone j p u
      none_left j (l, u, k) (inr p) =
          p (K.keys_differ j i l h.0 (subst (λ (e : Entry). 1 ≤ e.len) (there j p) u) h.1 (sym (ap (λ (e : Entry). e.key) (there j p)) ∙ k ∙ sym h.2))
