-- An alloc from the first page of a class list keeps the state well formed and adds its block.
use mathlib.Core.Path.{◌≡◌, refl, sym, ap, ◌∙◌}
use mathlib.Core.Logic.{◌⊎◌, inl, inr, ◌≢◌}
use mathlib.Core.Bool.{Bool, true, false, cond}
use mathlib.Core.List.{List, ◌∷◌}
use Prim.Native.Nat.{ℕ, ◌+◌, ◌*◌, ◌≤◌, ◌<◌}
use native.Mathlib.Omega.{arith}
use Rattle.base.specs.Functions.{upd}
use Rattle.base.specs.Lists.{Mem, NoDup}
use Rattle.base.proofs.Cases.{clash, eq?, lt?}
use Rattle.base.proofs.Functions.{upd_same, upd_other}
use Rattle.model.specs.Classes.{chunk, chunks, own, lowest, has_clear}
use Rattle.model.specs.State.{Page, slab, State, is_open}
use Rattle.model.specs.WellFormed.{ClassOk, TableOk, ListsOk, WellFormed}
use Rattle.model.specs.Calls.{mark_chunk}
use Rattle.model.specs.Live.{Block, small, offset, On}
use Rattle.model.specs.Effects.{Adds, SlabsFrom}
use Rattle.model.proofs.Classes.{chunk_inj, lowest_clear_lem, taken_at}
use Rattle.model.proofs.Table.{slab_ok}
use Rattle.model.proofs.Lists.{open_slab, lists-upd}
use Rattle.model.proofs.Tallies.{asked_ok}
use Rattle.model.proofs.Blocks.{adds}
use Rattle.model.proofs.Remark as remark

module _ (s : State) (wf : WellFormed s) (c p : ℕ) (rest : List ℕ) (m : ℕ → Bool)
    (listed : s.lists c ≡ p ∷ rest) (was : s.page p ≡ slab c m) where
  cok : ClassOk c m
  cok = slab_ok wf.table was

  clear : has_clear c m ≡ true
  clear =
      let h : is_open c (s.page p) ≡ true = wf.class-lists.holds c p (rw listed (inl refl)) in
      sym (open_slab c m) ∙ (rw was at h)

  abbrev i : ℕ
  i = lowest c m

  i_lt : i < chunks c
  i_lt = (lowest_clear_lem c m clear).0

  i_clear : m i ≡ false
  i_clear = (lowest_clear_lem c m clear).1

  i_own : own c ≤ i
  i_own = go (lt? i (own c))
    where
      go : (i < own c) ⊎ (own c ≤ i) → own c ≤ i
      go (inl l) = absurd (clash (cok.own-set i l) i_clear)
      go (inr l) = l

  abbrev m' : ℕ → Bool
  m' = upd m i true

  abbrev page' : ℕ → Page
  page' = upd s.page p (slab c m')

  -- the marks that were set stay set
  stays : (j : ℕ) → m j ≡ true → m' j ≡ true
  stays j e = go (eq? j i)
    where
      go : (j ≡ i) ⊎ (j ≢ i) → m' j ≡ true
      go (inl q) = rw (q, upd_same m i true)
      go (inr q) = upd_other m i true j q ∙ e

  cok' : ClassOk c m'
  cok' = record {
    in_range = cok.in_range;
    own-set = λ j l. stays j (cok.own-set j l);
    past_clear = λ j l. upd_other m i true j (λ q. omega (arith, i_lt)) ∙ cok.past_clear j l;
    in_use = taken_at c m' i i_own i_lt (upd_same m i true);
  }

  table' : TableOk s.size page'
  table' = remark.marked-table wf p c m m' was cok'

  head : page' p ≡ slab c m'
  head = remark.head wf p c m m' was

  other : (j : ℕ) → j ≢ p → page' j ≡ s.page j
  other = remark.other wf p c m m' was

  once : NoDup (p ∷ rest)
  once = rw listed at (wf.class-lists.once c)

  lists' : ListsOk page' (upd s.lists c (cond (has_clear c m') (p ∷ rest) rest))
  lists' =
      lists-upd c (cond (has_clear c m') (p ∷ rest) rest) wf.class-lists (remark.marked-others wf p c m m' was) (go_once (has_clear c m'))
      (λ j n. go_holds j (has_clear c m') refl n) (λ j e. go_all j (has_clear c m') refl e (eq? j p))
    where
      go_once : (t : Bool) → NoDup (cond t (p ∷ rest) rest)
      go_once true = once
      go_once false = once.1

      in_rest : (j : ℕ) → Mem j rest → is_open c (page' j) ≡ true
      in_rest j n =
          let d : j ≢ p = λ q. once.0 (rw q at n) in
          ap (is_open c) (other j d) ∙ wf.class-lists.holds c j (rw listed (inr n))

      go_holds : (j : ℕ) (t : Bool) → has_clear c m' ≡ t → Mem j (cond t (p ∷ rest) rest) → is_open c (page' j) ≡ true
      go_holds j true e (inl q) = rw (q, head) (open_slab c m' ∙ e)
      go_holds j true e (inr n) = in_rest j n
      go_holds j false e n = in_rest j n

      was_in : (j : ℕ) → is_open c (page' j) ≡ true → j ≢ p → Mem j (p ∷ rest)
      was_in j e d = rw listed at (wf.class-lists.all c j (sym (ap (is_open c) (other j d)) ∙ e))

      go_all : (j : ℕ) (t : Bool) → has_clear c m' ≡ t → is_open c (page' j) ≡ true → (j ≡ p) ⊎ (j ≢ p) → Mem j (cond t (p ∷ rest) rest)
      go_all j true z e (inl q) = inl q
      go_all j true z e (inr q) = was_in j e q
      go_all j false z e (inl q) = absurd (clash (sym (open_slab c m') ∙ (rw (q, head) at e)) z)
      go_all j false z e (inr q) = side (was_in j e q)
        where
          side : Mem j (p ∷ rest) → Mem j rest
          side (inl d) = absurd (q d)
          side (inr n) = n

  abbrev new : Block
  new = small (4096 * p + chunk c * i) c

  pub mark_adds : Adds s.page page' new
  unfolding On
  mark_adds =
      adds wf.table table' p (λ j n e. rw (other j n) (λ x. x, λ x. x)) new (λ x. fresh (rw was at x))
      (rw head (i, refl, i_own, i_lt, upd_same m i true)) (λ e x. rw was (found e (rw head at x))) (λ e x. rw head (kept e (rw was at x)))
    where
      fresh : On (slab c m) p new → ⊥
      fresh (j, q, o, l, t) =
          let z : 4096 * p + chunk c * i ≡ 4096 * p + chunk c * j = ap offset q in
          let y : i ≡ j = chunk_inj c i j (omega arith) in
          clash (rw y t) i_clear

      found : (e : Block) → On (slab c m') p e → (e ≡ new) ⊎ On (slab c m) p e
      found e (j, q, o, l, t) = go (eq? j i)
        where
          go : (j ≡ i) ⊎ (j ≢ i) → (e ≡ new) ⊎ On (slab c m) p e
          go (inl d) = inl (q ∙ ap (λ (n : ℕ). small (4096 * p + chunk c * n) c) d)
          go (inr d) = inr (j, q, o, l, sym (upd_other m i true j d) ∙ t)

      kept : (e : Block) → On (slab c m) p e → On (slab c m') p e
      kept e (j, q, o, l, t) = (j, q, o, l, stays j t)

  pub mark-slabs : SlabsFrom s.page page'
  mark-slabs = remark.marked-slabs wf p c m m' was

  pub mark-well : WellFormed (mark_chunk s c p rest m).after
  unfolding mark_chunk
  mark-well = record {
    some-page = wf.some-page;
    table = table';
    free_runs = remark.marked-runs wf p c m m' was;
    class-lists = lists';
    tallies = asked_ok wf.tallies c cok.in_range;
  }
