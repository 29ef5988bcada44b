-- The statements of `specs/Monotone.antt`, proved.
use mathlib.Core.Path.{◌≡◌, refl, sym, ap, ◌∙◌, subst}
use mathlib.Core.Logic.{◌⊎◌, inl, inr}
use mathlib.Core.Bool.{true, ◌||◌}
use Prim.Native.Nat.{ℕ, ◌+◌}
use Rattle.base.proofs.Cases.{clash, never, decided, cond_case}
use Rattle.model.specs.Classes.{Need, nothing, chunk_of, pages, need_of}
use Rattle.model.specs.State.{Page, idle, State, is_open}
use Rattle.model.specs.WellFormed.{WellFormed}
use Rattle.model.specs.Calls.{Alloc, Free, Answer, at, freed, no, no_room, step}
use Rattle.model.specs.Live.{Block, Live, run_from, begin}
use Rattle.model.specs.Effects.{FreeEffect, Effect}
use Rattle.model.specs.View.{View, shown}
use Rattle.model.specs.Expected.{expected}
use Rattle.model.specs.Ruling.{Verdict, granted, refused, verdict, clear_in, page_in, run_in, alloc_ruling, ruling}
use Rattle.model.specs.Claim.{Faithful, Kept, NoChunk}
use Rattle.model.proofs.Alike.{shown-expected}
use Rattle.model.proofs.Claim.{claims as model-claims}
use Rattle.free_all_model.specs.FreeAll.{Completion, done, stopped, free_all}
use Rattle.free_all_model.proofs.Claim.{claims as free-all-claims}
use Rattle.monotone.specs.Monotone.{Fewer, GrantsMore, FewerRuledMore, FewerAfterCalls, FreeSpoilsNone, FreeAllSpoilsNone, Monotone}
use Rattle.monotone.proofs.Pages.{free_still, open_still}

-- ---- an alloc of something is granted, or refused for room; of nothing it is granted by no pool

abbrev GrantedOrRoom : Verdict → Type 0
GrantedOrRoom x = (x ≡ granted) ⊎ (x ≡ refused no_room)

ruled-chunk : (v : View) (c : ℕ) → GrantedOrRoom (alloc_ruling v (chunk_of c))
unfolding alloc_ruling
ruled-chunk v c = cond_case GrantedOrRoom (clear_in v c || page_in v) (λ _. inl refl) (λ _. inr refl)

ruled-pages : (v : View) (k : ℕ) → GrantedOrRoom (alloc_ruling v (pages k))
unfolding alloc_ruling
ruled-pages v k = cond_case GrantedOrRoom (run_in v k) (λ _. inl refl) (λ _. inr refl)

refused-is : (a : Answer) (k : ℕ) → verdict a ≡ refused k → a ≡ no k
refused-is (at off) k e = absurd (never (cc))
refused-is (freed n) k e = absurd (never (cc))
refused-is (no j) k e = cc

module _ (s : State) (wf : WellFormed s) (n : ℕ) (need : Need) (e : need_of n ≡ need) where
  ruled : verdict (step s (Alloc n)).answer ≡ alloc_ruling (shown s) need
  unfolding ruling
  ruled = model-claims.calls_ruled s wf (Alloc n) ∙ ap (alloc_ruling (shown s)) e

  either : GrantedOrRoom (alloc_ruling (shown s) need) → (verdict (step s (Alloc n)).answer ≡ granted) ⊎ ((step s (Alloc n)).answer ≡ no no_room)
  either (inl x) = inl (ruled ∙ x)
  either (inr x) = inr (refused-is _ no_room (ruled ∙ x))

-- ---- two states

module _ (s t : State) (ws : WellFormed s) (wt : WellFormed t) (size : s.size ≡ t.size) (fewer : Fewer s t) where
  no_chunk : (c : ℕ) → NoChunk s c → NoChunk t c
  no_chunk c none = record {
    none_clear = λ p. decided (is_open c (t.page p)) (λ o. side p (open_still s t ws wt size fewer p c o));
    none_free = λ p h. none.none_free p (free_still s t ws wt size fewer p h);
  }
    where
      side : (p : ℕ) → (is_open c (s.page p) ≡ true) ⊎ (s.page p ≡ idle) → ⊥
      side p (inl o) = clash o (none.none_clear p)
      side p (inr h) = none.none_free p h

  -- what s refuses for room t refuses for room
  refused-chunk : (n c : ℕ) → need_of n ≡ chunk_of c → (step s (Alloc n)).answer ≡ no no_room → (step t (Alloc n)).answer ≡ no no_room
  refused-chunk n c e h = (model-claims.chunk_refused_lem t wt n c e).1 (no_chunk c ((model-claims.chunk_refused_lem s ws n c e).0 h))

  refused-pages : (n k : ℕ) → need_of n ≡ pages k → (step s (Alloc n)).answer ≡ no no_room → (step t (Alloc n)).answer ≡ no no_room
  refused-pages n k e h =
      (model-claims.pages-refused t wt n k e).1
      (λ a. let (j, l, busy) = (model-claims.pages-refused s ws n k e).0 h a in (j, l, λ z. busy (free_still s t ws wt size fewer (a + j) z)))

  grants_more : GrantsMore s t
  unfolding alloc_ruling
  grants_more n h = go (need_of n) refl
    where
      side : (verdict (step s (Alloc n)).answer ≡ granted) ⊎ ((step s (Alloc n)).answer ≡ no no_room) →
          ((step s (Alloc n)).answer ≡ no no_room → (step t (Alloc n)).answer ≡ no no_room) → verdict (step s (Alloc n)).answer ≡ granted
      side (inl e) too = e
      side (inr e) too = let z = too e in absurd (never (cc (ap verdict z)))

      go : (need : Need) → need_of n ≡ need → verdict (step s (Alloc n)).answer ≡ granted
      go nothing e = let z = ruled t wt n nothing e in absurd (never (cc))
      go (chunk_of c) e = side (either s ws n (chunk_of c) e (ruled-chunk (shown s) c)) (refused-chunk n c e)
      go (pages k) e = side (either s ws n (pages k) e (ruled-pages (shown s) k)) (refused-pages n k e)

-- ---- all of them

fewer_ruled_more : FewerRuledMore
fewer_ruled_more s t ws wt P p q B D b d sub n h =
    let S : verdict (step s (Alloc n)).answer ≡ ruling (expected P B) (Alloc n) =
    model-claims.calls_ruled s ws (Alloc n) ∙ ap (λ (v : View). ruling v (Alloc n)) (shown-expected s ws b ∙ ap (λ (k : ℕ). expected k B) p) in
    let T : verdict (step t (Alloc n)).answer ≡ ruling (expected P D) (Alloc n) =
    model-claims.calls_ruled t wt (Alloc n) ∙ ap (λ (v : View). ruling v (Alloc n)) (shown-expected t wt d ∙ ap (λ (k : ℕ). expected k D) q) in
    sym S ∙ grants_more s t ws wt (p ∙ sym q) (λ e x. d.live e (sub e (b.all e x))) n (T ∙ h)

fewer_after_calls : FewerAfterCalls
fewer_after_calls P h cs ds sub =
    let A : Faithful P (run_from (begin P) cs) = model-claims.demand3 P h cs in
    let B : Faithful P (run_from (begin P) ds) = model-claims.demand3 P h ds in
    grants_more (run_from (begin P) cs).state (run_from (begin P) ds).state A.well B.well (A.size ∙ sym B.size)
    (λ e x. B.live.live e (sub e (A.live.all e x)))

free_spoils_none : FreeSpoilsNone
unfolding Effect
free_spoils_none s wf off =
    let K : Kept s (Effect (Free off)) (step s (Free off)) = model-claims.calls_keep s wf (Free off) in
    grants_more (step s (Free off)).after s K.well wf K.size (left s.page (step s (Free off)).after.page (step s (Free off)).answer K.effect)
  where
    left : (f f' : ℕ → Page) (a : Answer) → FreeEffect off f a f' → (e : Block) → Live f' e → Live f e
    left f f' (at k) x e l = unfold FreeEffect in (absurd x)
    left f f' (freed k) x e l = unfold FreeEffect in (x.gone e l).0
    left f f' (no k) x e l = unfold FreeEffect in (subst (λ (g : ℕ → Page). Live g e) x l)

free_all_spoils_none : FreeAllSpoilsNone
free_all_spoils_none s wf offs =
    let W = free-all-claims.on_well_formed s wf offs in
    grants_more (free_all s offs).after s W.well wf W.size (λ e x. go (free_all s offs).answer refl e x)
  where
    go : (a : Completion) → (free_all s offs).answer ≡ a → (e : Block) → Live (free_all s offs).after.page e → Live s.page e
    go done d e x = (((free-all-claims.on_well_formed s wf offs).left d e).0 x).0
    go (stopped k n) d e x = subst (λ (t : State). Live t.page e) ((free-all-claims.as_single_frees s offs).stopped-state k n d) x

pub claims : Monotone
claims = record {
  fewer_grant_more = grants_more;
  fewer_ruled_more = fewer_ruled_more;
  fewer_after_calls = fewer_after_calls;
  free_spoils_none = free_spoils_none;
  free_all_spoils_none = free_all_spoils_none;
}
