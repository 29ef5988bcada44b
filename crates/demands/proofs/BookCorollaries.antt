-- What follows from demand 3 at each point of a list of turns, by the live set alone.
use mathlib.Core.Path.{◌≡◌, refl, sym, ap, ◌∙◌, subst}
use mathlib.Core.Logic.{◌≢◌, ◌↔◌, inl, inr}
use mathlib.Core.Bool.{Bool, true, false, cond, not}
use mathlib.Core.List.{List, [], ◌∷◌, ◌++◌}
use Prim.Native.Nat.{ℕ, ◌≤◌}
use native.Mathlib.Omega.{arith}
use borrow.Author.Tests.{eq-eqb, ne_eqb}
use Rattle.base.specs.Tests.{pick}
use Rattle.base.specs.Count.{sum, count}
use Rattle.base.specs.Lists.{Mem, keep}
use Rattle.base.proofs.Count.{sum-zero}
use Rattle.base.proofs.Lists.{mem-keep}
use Rattle.words.specs.Word.{Bytes}
use Rattle.answers.specs.Outcome.{granted}
use Rattle.model.specs.Classes.{Need, nothing, chunk_of, pages, need_of}
use Rattle.model.specs.Calls.{Call, Alloc, Free, fresh}
use Rattle.model.specs.Live.{Block, offset, block_for, elsewhere, run_from, begin}
use Rattle.model.specs.View.{View, total_in, shown}
use Rattle.model.specs.Expected.{mark_in, expected}
use Rattle.model.proofs.Blocks.{live_same}
use Rattle.model.proofs.Claim.{claims}
use Rattle.run_laws.proofs.Starts.{keep_every}
use Rattle.format.specs.Format.{formatted}
use Rattle.rules.specs.Bytes.{pages_in}
use Rattle.drawing.proofs.Laws.{claims as laws-of}
use Rattle.demands.specs.Calls.{answered, after}
use Rattle.demands.specs.Shown.{shown_by}
use Rattle.demands.specs.Demands.{Rewritten, Turn, fed, Allowed, played, book, Reached, Faithful, OneFreeRun, BookCorollaries}
use Rattle.demands.proofs.Calls.{demand1}
use Rattle.demands.proofs.Turns.{demand3}
use Rattle.demands.proofs.Corollaries.{corollaries}

-- two tests in either order
module _ {A : Type 0} where
  keep_swap : (q r : A → Bool) (xs : List A) → keep q (keep r xs) ≡ keep r (keep q xs)
  keep_swap q r [] = refl
  keep_swap q r (x ∷ xs) = go (q x) (r x) refl refl (keep_swap q r xs)
    where
      go : (t u : Bool) → q x ≡ t → r x ≡ u → keep q (keep r xs) ≡ keep r (keep q xs) →
          keep q (cond u (x ∷ keep r xs) (keep r xs)) ≡ keep r (cond t (x ∷ keep q xs) (keep q xs))
      go true true e f ih = rw (e, f) (ap (λ (ys : List A). x ∷ ys) ih)
      go true false e f ih = rw f ih
      go false true e f ih = rw e ih
      go false false e f ih = ih

-- ---- one turn more at the end of a list

module _ (w : ℕ) (t : Turn) where
  allowed_more : (ts : List Turn) (s : List ℕ) → Allowed w s ts → Rewritten w (played w s ts) t.bytes → Allowed w s (ts ++ (t ∷ []))
  allowed_more [] s A R = (R, tt)
  allowed_more (x ∷ ts) s A R = (A.0, allowed_more ts (after w x.bytes x.call) A.1 R)

  played_more : (ts : List Turn) (s : List ℕ) → played w s (ts ++ (t ∷ [])) ≡ after w t.bytes t.call
  played_more [] s = refl
  played_more (x ∷ ts) s = played_more ts (after w x.bytes x.call)

  book_more : (ts : List Turn) (B : List Block) → book w B (ts ++ (t ∷ [])) ≡ fed (book w B ts) t.call (answered w t.bytes t.call)
  book_more [] B = refl
  book_more (x ∷ ts) B = book_more ts (fed B x.call (answered w x.bytes x.call))

-- ---- the expected view of no blocks

-- the pool that format leaves has it
none-live : (P : ℕ) → 1 ≤ P → OneFreeRun P (expected P [])
unfolding run_from begin fresh shown expected mark_in total_in count
none-live P h =
    let v : shown (fresh P) ≡ expected P [] = (claims.demand3 P h []).view in
    record {
      size = refl;
      run = sym (ap (λ (x : View). x.free_run 0) v);
      no_other = λ p l. sym (ap (λ (x : View). x.free_run p) v) ∙ ap (λ (b : Bool). cond b P 0) (ne_eqb 0 p (λ z. omega arith));
      all_free = λ p. refl;
      no-mark = λ p i. refl;
      none_used = λ c. refl;
      none-counted = λ c. let z : sum (λ p. 0) P ≡ 0 = sum-zero (λ p. 0) P (λ p _. refl) in rw z (omega arith);
    }

-- ---- at a point of the list

offset_for : (x : Need) (off : ℕ) → offset (block_for x off) ≡ off
unfolding block_for
offset_for nothing off = refl
offset_for (chunk_of c) off = refl
offset_for (pages k) off = refl

is-elsewhere : (off : ℕ) (e : Block) → offset e ≢ off → elsewhere off e ≡ true
unfolding elsewhere
is-elsewhere off e n = ap not (ne_eqb (offset e) off n)

not-elsewhere : (e : Block) → elsewhere (offset e) e ≡ false
unfolding elsewhere
not-elsewhere e = ap not (eq-eqb (offset e) (offset e) refl)

module _ (w : ℕ) (wide : 2 ≤ w) (narrow : w ≤ 255) (s : List ℕ) (C : Bytes s) where
  abbrev P : ℕ
  P = pages_in w s

  module _ {B : List Block} {u : List ℕ} (R : Reached w s B u) where
    F : Faithful w P B u
    F = demand3 w wide narrow s C B u R

    pub next : (call : Call) {v : List ℕ} → Rewritten w (after w u call) v → Reached w s (fed B call (answered w u call)) v
    next call {v} N =
        let t : Turn = record { bytes = u; call = call } in
        record {
          some = R.some;
          most = R.most;
          turns = R.turns ++ (t ∷ []);
          allowed = allowed_more w t R.turns (formatted w s) R.allowed R.since;
          live = book_more w t R.turns [] ∙ ap (λ (L : List Block). fed L call (answered w u call)) R.live;
          since = rw (played_more w t R.turns (formatted w s)) N;
        }

    -- the call's own bytes, before anyone writes
    left : (call : Call) → Faithful w P (fed B call (answered w u call)) (after w u call)
    left call =
        demand3 w wide narrow s C _ _
        (next call (record { lengths = refl; records = λ i _. refl; maps = λ p _ _ _ j _. refl }, (demand1 w wide narrow u R.since.1).bytes-kept call))

    -- different blocks begin at different offsets
    offsets : (d e : Block) → Mem d B → Mem e B → d ≢ e → offset d ≢ offset e
    offsets d e m k n z =
        n (live_same ((laws-of w wide narrow u R.since.1).sound-fits F.sound).well.table d e ((F.live d).0 m) ((F.live e).0 k) z)

    module _ (e : Block) (m : Mem e B) where
      frees : (answered w u (Free (offset e))).number ≡ 0
      frees = ((demand1 w wide narrow u R.since.1).free-granted (offset e) F.sound).1 (e, (F.live e).0 m, refl)

      struck : fed B (Free (offset e)) (answered w u (Free (offset e))) ≡ keep (elsewhere (offset e)) B
      unfolding fed pick
      struck = rw frees

      after_free : {v : List ℕ} → Rewritten w (after w u (Free (offset e))) v → Reached w s (keep (elsewhere (offset e)) B) v
      after_free {v} N = subst (λ (L : List Block). Reached w s L v) struck (next (Free (offset e)) N)

      view-after : shown_by w (after w u (Free (offset e))) ≡ expected P (keep (elsewhere (offset e)) B)
      view-after = (left (Free (offset e))).view ∙ ap (expected P) struck

    -- the other of two blocks is still there
    other_kept : (d e : Block) → Mem d B → Mem e B → d ≢ e → Mem e (keep (elsewhere (offset d)) B)
    other_kept d e m k n = mem-keep (elsewhere (offset d)) e B k (is-elsewhere (offset d) e (λ z. offsets d e m k n (sym z)))

  alloc-freed : {B : List Block} {u : List ℕ} → Reached w s B u → (n off : ℕ) → answered w u (Alloc n) ≡ granted off →
      (v : List ℕ) → Rewritten w (after w u (Alloc n)) v →
      ((answered w v (Free off)).number ≡ 0) × (shown_by w (after w v (Free off)) ≡ shown_by w u)
  alloc-freed {B} {u} R n off a v N =
      undone (block_for (need_of n) off) (offset_for (need_of n) off) (subst (λ (L : List Block). Reached w s L v) added (next R (Alloc n) N))
    where
      added : fed B (Alloc n) (answered w u (Alloc n)) ≡ block_for (need_of n) off ∷ B
      added = unfold fed pick in rw a

      undone : (b : Block) → offset b ≡ off → Reached w s (b ∷ B) v →
          ((answered w v (Free off)).number ≡ 0) × (shown_by w (after w v (Free off)) ≡ shown_by w u)
      undone b o Q =
          let new = (F Q).once.0 in
          let others : keep (elsewhere (offset b)) (b ∷ B) ≡ B =
          rw (not-elsewhere b)
          (keep_every (elsewhere (offset b)) B (λ e m. is-elsewhere (offset b) e (offsets Q e b (inr m) (inl refl) (λ z. new (rw (← z) m))))) in
          subst (λ (x : ℕ). ((answered w v (Free x)).number ≡ 0) × (shown_by w (after w v (Free x)) ≡ shown_by w u)) o
          (frees Q b (inl refl), view-after Q b (inl refl) ∙ ap (expected P) others ∙ sym (F R).view)

pub book-corollaries : (w : ℕ) → 2 ≤ w → w ≤ 255 → (s : List ℕ) → Bytes s → BookCorollaries w s
book-corollaries w wide narrow s C = record {
  alloc-freed = λ B u R. alloc-freed w wide narrow s C R;
  both-freed = λ B d e m k n u v R N. (
    frees w wide narrow s C R d m,
    frees w wide narrow s C (after_free w wide narrow s C R d m N) e (other_kept w wide narrow s C R d e m k n),
  );
  either_way = λ B d e m k n u v R N u' v' R' N'.
      view-after w wide narrow s C (after_free w wide narrow s C R d m N) e (other_kept w wide narrow s C R d e m k n)
      ∙ ap (expected (pages_in w s)) (keep_swap (elsewhere (offset e)) (elsewhere (offset d)) B)
      ∙ sym (view-after w wide narrow s C (after_free w wide narrow s C R' e k N') d (other_kept w wide narrow s C R' e d k m (λ z. n (sym z))));
  all-freed = all-freed;
  alike = alike;
}
  where
    all-freed : (u : List ℕ) → Reached w s [] u → OneFreeRun (pages_in w s) (shown_by w u) × (shown_by w u ≡ expected (pages_in w s) [])
    all-freed u R =
        let v = (demand3 w wide narrow s C [] u R).view in
        (subst (OneFreeRun (pages_in w s)) (sym v) (none-live (pages_in w s) (omega (arith, R.some))), v)

    alike : (t : List ℕ) → Bytes t → pages_in w s ≡ pages_in w t → (B D : List Block) (u v : List ℕ) → Reached w s B u → Reached w t D v →
        ((e : Block) → Mem e B ↔ Mem e D) → (shown_by w u ≡ shown_by w v) × ((call : Call) → (answered w u call).number ≡ (answered w v call).number)
    alike t E p B D u v R Q same =
        let F = demand3 w wide narrow s C B u R in
        let G = demand3 w wide narrow t E D v Q in
        (corollaries w wide narrow u R.since.1 F.sound).alike v Q.since.1 G.sound (F.size ∙ p ∙ sym G.size)
        (λ e. (λ x. (G.live e).0 ((same e).0 ((F.live e).1 x)), λ x. (F.live e).0 ((same e).1 ((G.live e).1 x))))
