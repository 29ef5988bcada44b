-- A granted free of a chunk keeps the state well formed and strikes out its block: the page stays a class page, or it is released.
use mathlib.Core.Path.{◌≡◌, refl, sym, ap, ◌∙◌}
use mathlib.Core.Logic.{◌⊎◌, inl, inr, ◌≢◌}
use mathlib.Core.Bool.{Bool, true, false}
use mathlib.Core.List.{List}
use Prim.Native.Nat.{ℕ, ◌+◌, ◌*◌, ◌≤◌, ◌<◌}
use native.Mathlib.Omega.{arith}
use borrow.Author.Tests.{eqb-false, not-true, ne_eqb}
use Rattle.base.specs.Functions.{upd, fill}
use Rattle.base.specs.Lists.{Mem, NoDup, keep}
use Rattle.base.specs.Links.{others}
use Rattle.base.proofs.Cases.{clash, never, eq?, lt?, Out}
use Rattle.base.proofs.Functions.{upd_same, upd_other, fill_in, fill_out}
use Rattle.base.proofs.Lists.{keep-mem, mem-keep, keep-once}
use Rattle.model.specs.Classes.{chunk, chunks, own, has_clear, has_taken}
use Rattle.model.specs.State.{idle, slab, edge, State, is_open}
use Rattle.model.specs.WellFormed.{ClassOk, TableOk, ListsOk, WellFormed}
use Rattle.model.specs.Calls.{release, relisted, keep_page, drop_page}
use Rattle.model.specs.Live.{Block, small, offset, extent, On}
use Rattle.model.specs.Effects.{Strikes, SlabsFrom}
use Rattle.model.proofs.Classes.{chunk_inj, clear_at, none-taken}
use Rattle.model.proofs.Table.{slab_ok, solid_slab}
use Rattle.model.proofs.Lists.{open_slab, open_other, lists-upd}
use Rattle.model.proofs.Blocks.{strikes}
use Rattle.model.proofs.Release.{freed-table, freed-runs}
use Rattle.model.proofs.Remark as remark

module _ (s : State) (wf : WellFormed s) (p c : ℕ) (m : ℕ → Bool) (i : ℕ) (was : s.page p ≡ slab c m)
    (i-own : own c ≤ i) (i_lt : i < chunks c) (i-set : m i ≡ true) where
  cok : ClassOk c m
  cok = slab_ok wf.table was

  abbrev m' : ℕ → Bool
  m' = upd m i false

  abbrev old : Block
  old = small (4096 * p + chunk c * i) c

  here : On (s.page p) p old
  unfolding On
  here = rw was (i, refl, i-own, i_lt, i-set)

  -- the class list with page p on it
  abbrev listed : List ℕ
  listed = relisted (has_clear c m) p (s.lists c)

  p_open : has_clear c m ≡ true → Mem p (s.lists c)
  p_open e = wf.class-lists.all c p (rw was (open_slab c m ∙ e))

  p_full : has_clear c m ≡ false → ¬ Mem p (s.lists c)
  p_full e n =
      let h : is_open c (s.page p) ≡ true = wf.class-lists.holds c p n in
      clash (sym (open_slab c m) ∙ (rw was at h)) e

  p_listed : Mem p listed
  unfolding relisted
  p_listed = go (has_clear c m) refl
    where
      go : (t : Bool) → has_clear c m ≡ t → Mem p (relisted t p (s.lists c))
      go true e = p_open e
      go false e = inl refl

  listed-once : NoDup listed
  unfolding relisted
  listed-once = go (has_clear c m) refl
    where
      go : (t : Bool) → has_clear c m ≡ t → NoDup (relisted t p (s.lists c))
      go true e = wf.class-lists.once c
      go false e = (p_full e, wf.class-lists.once c)

  listed-mem : (j : ℕ) → j ≢ p → Mem j listed → Mem j (s.lists c)
  unfolding relisted
  listed-mem j d = go (has_clear c m)
    where
      go : (t : Bool) → Mem j (relisted t p (s.lists c)) → Mem j (s.lists c)
      go true n = n
      go false (inl q) = absurd (d q)
      go false (inr n) = n

  mem-listed : (j : ℕ) → Mem j (s.lists c) → Mem j listed
  unfolding relisted
  mem-listed j n = go (has_clear c m)
    where
      go : (t : Bool) → Mem j (relisted t p (s.lists c))
      go true = n
      go false = inr n

  -- the other marks stay
  other_mark : (j : ℕ) → j ≢ i → m' j ≡ m j
  other_mark j d = upd_other m i false j d

  -- ---- the page stays

  module _ (used : has_taken c m' ≡ true) where
    cok' : ClassOk c m'
    cok' = record {
      in_range = cok.in_range;
      own-set = λ j l. other_mark j (omega arith) ∙ cok.own-set j l;
      past_clear = λ j l. other_mark j (omega arith) ∙ cok.past_clear j l;
      in_use = used;
    }

    table' : TableOk s.size (upd s.page p (slab c m'))
    table' = remark.marked-table wf p c m m' was cok'

    head : upd s.page p (slab c m') p ≡ slab c m'
    head = remark.head wf p c m m' was

    other : (j : ℕ) → j ≢ p → upd s.page p (slab c m') j ≡ s.page j
    other = remark.other wf p c m m' was

    lists' : ListsOk (upd s.page p (slab c m')) (upd s.lists c listed)
    lists' =
        lists-upd c listed wf.class-lists (remark.marked-others wf p c m m' was) listed-once (λ j n. holds j n (eq? j p)) (λ j e. all j e (eq? j p))
      where
        holds : (j : ℕ) → Mem j listed → (j ≡ p) ⊎ (j ≢ p) → is_open c (upd s.page p (slab c m') j) ≡ true
        holds j n (inl q) = rw (q, head) (open_slab c m' ∙ clear_at c m' i i_lt (upd_same m i false))
        holds j n (inr q) = ap (is_open c) (other j q) ∙ wf.class-lists.holds c j (listed-mem j q n)

        all : (j : ℕ) → is_open c (upd s.page p (slab c m') j) ≡ true → (j ≡ p) ⊎ (j ≢ p) → Mem j listed
        all j e (inl q) = rw q p_listed
        all j e (inr q) = mem-listed j (wf.class-lists.all c j (sym (ap (is_open c) (other j q)) ∙ e))

    pub kept_strikes : Strikes s.page (upd s.page p (slab c m')) (offset old) (chunk c)
    unfolding On extent
    kept_strikes =
        strikes wf.table table' p (λ j n e. rw (other j n) (λ x. x, λ x. x)) old here (λ e x. rw was (gone e (rw head at x))) (λ e x d. rw head (kept e (rw was at x) d))
      where
        gone : (e : Block) → On (slab c m') p e → On (slab c m) p e × (offset e ≢ offset old)
        gone e (j, q, o, l, t) =
            let d : j ≢ i = λ z. clash t (rw z (upd_same m i false)) in
            ((j, q, o, l, sym (other_mark j d) ∙ t), λ z. d (chunk_inj c j i (omega (arith, ap offset q))))

        kept : (e : Block) → On (slab c m) p e → offset e ≢ offset old → On (slab c m') p e
        kept e (j, q, o, l, t) d =
            let n : j ≢ i = λ z. d (ap offset q ∙ ap (λ (y : ℕ). 4096 * p + chunk c * y) z) in
            (j, q, o, l, other_mark j n ∙ t)

    pub kept-slabs : SlabsFrom s.page (upd s.page p (slab c m'))
    kept-slabs = remark.marked-slabs wf p c m m' was

    pub kept-well : WellFormed (keep_page s p c m i)
    unfolding keep_page
    kept-well = record {
      some-page = wf.some-page;
      table = table';
      free_runs = remark.marked-runs wf p c m m' was;
      class-lists = lists';
      tallies = wf.tallies;
    }

  -- ---- the page is released

  module _ (unused : has_taken c m' ≡ false) where
    -- page p, and no other
    at_p : (j : ℕ) → p ≤ j → j < p + 1 → s.page j ≡ slab c m
    at_p j l u = let q : j ≡ p = omega arith in ap s.page q ∙ was

    busy : (j : ℕ) → p ≤ j → j < p + 1 → (s.page j ≢ idle) × (s.page j ≢ edge)
    busy j l u = (λ e. never (cc (at_p j l u)), λ e. never (cc (at_p j l u)))

    freed : TableOk s.size (fill s.page p 1 idle)
    freed = freed-table wf.table wf.free_runs p 1 (omega arith) (solid_slab s.page p c m was) busy

    now : fill s.page p 1 idle p ≡ idle
    now = fill_in s.page p 1 idle p (omega arith) (omega arith)

    rest : (j : ℕ) → j ≢ p → fill s.page p 1 idle j ≡ s.page j
    rest j d = fill_out s.page p 1 idle j (go (lt? j p))
      where
        go : (j < p) ⊎ (p ≤ j) → Out p 1 j
        go (inl l) = inl l
        go (inr l) = inr (omega arith)

    freed-lists : ListsOk (fill s.page p 1 idle) (upd s.lists c (keep (others p) listed))
    unfolding others is_open
    freed-lists =
        lists-upd c (keep (others p) listed) wf.class-lists (λ d j n. same d j n (eq? j p)) (keep-once (others p) listed listed-once)
        (λ j n. holds j (keep-mem (others p) j listed n)) (λ j e. all j e (eq? j p))
      where
        same : (d j : ℕ) → d ≢ c → (j ≡ p) ⊎ (j ≢ p) → is_open d (fill s.page p 1 idle j) ≡ is_open d (s.page j)
        same d j n (inl q) = rw (q, now, was) (sym (open_other c d m n))
        same d j n (inr q) = ap (is_open d) (rest j q)

        holds : (j : ℕ) → Mem j listed × (others p j ≡ true) → is_open c (fill s.page p 1 idle j) ≡ true
        holds j (n, t) =
            let d : j ≢ p = eqb-false j p (not-true _ t) in
            ap (is_open c) (rest j d) ∙ wf.class-lists.holds c j (listed-mem j d n)

        all : (j : ℕ) → is_open c (fill s.page p 1 idle j) ≡ true → (j ≡ p) ⊎ (j ≢ p) → Mem j (keep (others p) listed)
        all j e (inl q) = absurd (never (cc (ap (is_open c) (ap (fill s.page p 1 idle) q ∙ now))))
        all j e (inr q) =
            mem-keep (others p) j listed (mem-listed j (wf.class-lists.all c j (sym (ap (is_open c) (rest j q)) ∙ e))) (rw (ne_eqb j p q))

    pub drop_strikes : Strikes s.page (fill s.page p 1 idle) (offset old) (chunk c)
    unfolding On extent
    drop_strikes =
        strikes wf.table freed p (λ j n e. rw (rest j n) (λ x. x, λ x. x)) old here (λ e x. absurd (rw now at x)) (λ e x d. absurd (last e (rw was at x) d))
      where
        last : (e : Block) → On (slab c m) p e → offset e ≢ offset old → ⊥
        last e (j, q, o, l, t) d =
            let n : j ≢ i = λ z. d (ap offset q ∙ ap (λ (y : ℕ). 4096 * p + chunk c * y) z) in
            clash (other_mark j n ∙ t) (none-taken c m' unused j o l)

    pub drop-slabs : SlabsFrom s.page (fill s.page p 1 idle)
    drop-slabs q d k h = go (eq? q p)
      where
        go : (q ≡ p) ⊎ (q ≢ p) → ((m : ℕ → Bool) × (s.page q ≡ slab d m)) ⊎ (s.page q ≡ idle)
        go (inl z) = absurd (never (cc (now, ap (fill s.page p 1 idle) z)))
        go (inr z) = inl (k, sym (rest q z) ∙ h)

    pub drop-well : WellFormed (drop_page s p c m)
    unfolding drop_page release
    drop-well = record {
      some-page = wf.some-page;
      table = freed;
      free_runs = freed-runs wf.table wf.free_runs p 1 (omega arith) (solid_slab s.page p c m was) busy;
      class-lists = freed-lists;
      tallies = wf.tallies;
    }
