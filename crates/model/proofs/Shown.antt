-- What a well-formed state shows of pages, free runs and marks is what its live set says.
use mathlib.Core.Path.{◌≡◌, refl, sym, ap, ◌∙◌, subst}
use mathlib.Core.Logic.{◌⊎◌, inl, inr, ◌≢◌}
use mathlib.Core.Bool.{Bool, true, false, cond, ◌&&◌, ◌||◌, not}
use mathlib.Core.List.{List, [], ◌∷◌}
use Prim.Native.Nat.{ℕ, zero, suc, ◌+◌, ◌*◌, ◌/◌, ◌≤◌, ◌<◌}
use native.Mathlib.Omega.{arith}
use lib.Dec.{eqb, leb, ltb}
use borrow.Author.Tests.{ltb-true, leb-true, eqb-true, lt-ltb, le-ltb, le-leb, eq-eqb, ne_eqb}
use Rattle.base.specs.Search.{least}
use Rattle.base.specs.Lists.{Mem}
use Rattle.base.proofs.Cases.{clash, eq?, lt?, same_test, and_true}
use Rattle.base.proofs.Search.{Least, least-is}
use Rattle.base.proofs.Lists.{has-mem, mem-has}
use Rattle.model.specs.Classes.{chunk, chunks, own}
use Rattle.model.specs.State.{Page, idle, slab, taken, inside, edge, Run, State, is_idle, marks_of}
use Rattle.model.specs.Runs.{starts_at}
use Rattle.model.specs.WellFormed.{ClassOk, RunsOk, WellFormed}
use Rattle.model.specs.Live.{Block, small, large, offset, On, Live, LiveSet}
use Rattle.model.specs.View.{Kind, vacant, class, is_vacant, kind_of}
use Rattle.model.specs.Expected.{covers, kind_in, kind_at, free_page, after_free, stretch_at, begins, mark_in}
use Rattle.model.proofs.Classes.{chunk-pos, chunk_inj, chunk-ends, some-taken}
use Rattle.model.proofs.Runs.{runs_same, Keyed, keyed}
use Rattle.model.proofs.Table.{slab_ok, taken_ok}
use Rattle.model.proofs.Blocks.{on_page}

-- ---- blocks and pages

covers-large : (q n p : ℕ) → q ≤ p → p < q + n → covers (large (4096 * q) n) p ≡ true
unfolding covers
covers-large q n p l u = let z : 4096 * q / 4096 ≡ q = omega arith in rw (z, le-leb q p l, lt-ltb p (q + n) u)

large-covers : (q n p : ℕ) → covers (large (4096 * q) n) p ≡ true → (q ≤ p) × (p < q + n)
unfolding covers
large-covers q n p e =
    let z : 4096 * q / 4096 ≡ q = omega arith in
    let (a, b) = and_true (leb q p) (ltb p (q + n)) (rw z at e) in
    (leb-true q p a, ltb-true p (q + n) b)

small-covers : (off c p : ℕ) → covers (small off c) p ≡ true → off / 4096 ≡ p
unfolding covers
small-covers off c p e = eqb-true (off / 4096) p e

-- every block that covers p makes it v, and one does or v is vacant
kind-is : (B : List Block) (p : ℕ) (v : Kind) → ((e : Block) → Mem e B → covers e p ≡ true → kind_in e p ≡ v) →
    (v ≡ vacant) ⊎ ((e : Block) × Mem e B × (covers e p ≡ true)) → kind_at B p ≡ v
kind-is [] p v h (inl q) = sym q
kind-is [] p v h (inr (e, m, c)) = absurd m
kind-is (e ∷ B) p v h z = go (covers e p) refl (kind-is B p v (λ d m. h d (inr m))) z
  where
    go : (t : Bool) → covers e p ≡ t → ((v ≡ vacant) ⊎ ((d : Block) × Mem d B × (covers d p ≡ true)) → kind_at B p ≡ v) →
        (v ≡ vacant) ⊎ ((d : Block) × Mem d (e ∷ B) × (covers d p ≡ true)) → cond t (kind_in e p) (kind_at B p) ≡ v
    go true t ih z = h e (inl refl) t
    go false t ih (inl q) = ih (inl q)
    go false t ih (inr (d, inl q, c)) = absurd (clash (rw q at c) t)
    go false t ih (inr (d, inr m, c)) = ih (inr (d, m, c))

pub begins-mem : (B : List Block) (off : ℕ) → begins B off ≡ true → (e : Block) × Mem e B × (offset e ≡ off)
begins-mem B off h = let (e, m, z) = has-mem (λ e. eqb (offset e) off) B h in (e, m, eqb-true (offset e) off z)

pub begins_at : (B : List Block) (e : Block) → Mem e B → begins B (offset e) ≡ true
begins_at B e m = mem-has (λ d. eqb (offset d) (offset e)) B e m (eq-eqb (offset e) (offset e) refl)

-- ---- the free run that starts at a page

module _ {g : ℕ → Bool} {rs : List Run} (ok : RunsOk g rs) (P : ℕ) (past : (j : ℕ) → P ≤ j → g j ≡ false) where
  -- the test whose least number is the run's length
  abbrev ends : ℕ → ℕ → Bool
  ends p j = not (g (p + j))

  length-is : (x : Run) → Mem x rs → Least (ends x.start) P x.len
  length-is x m = record {
    at_most = fits (lt? P x.len);
    before = λ j l. rw ((ok.sound x m).all_free (x.start + j) (omega arith) (omega arith));
    passes = λ l. rw ((ok.sound x m).high_end (x.start + x.len) refl);
  }
    where
      fits : (P < x.len) ⊎ (x.len ≤ P) → x.len ≤ P
      fits (inl l) = absurd (clash ((ok.sound x m).all_free (x.start + P) (omega arith) (omega arith)) (past (x.start + P) (omega arith)))
      fits (inr l) = l

  first-is : (x : Run) → Mem x rs → (p : ℕ) → x.start ≡ p → after_free g p ≡ false
  unfolding after_free
  first-is x m zero e = refl
  first-is x m (suc p) e = (ok.sound x m).low_end p (sym e)

  none-starts : (p : ℕ) → ((x : Run) → Mem x rs → x.start ≢ p) → (t : Bool) → g p ≡ t → stretch_at P g p ≡ 0
  unfolding stretch_at after_free
  none-starts p n false e = go (after_free g p)
    where
      zero_is : least (ends p) P ≡ 0
      zero_is =
          least-is (ends p) P 0 (record {
            at_most = omega arith;
            before = λ j l. absurd (omega arith);
            passes = λ l. let z : p + 0 ≡ p = omega arith in rw (z, e);
          })

      go : (t : Bool) → cond t 0 (least (ends p) P) ≡ 0
      go true = refl
      go false = zero_is
  none-starts zero n true e = let (x, m, a, b) = ok.covers 0 e in absurd (n x m (omega arith))
  none-starts (suc p) n true e =
      let (x, m, a, b) = ok.covers (suc p) e in
      let d : x.start ≢ suc p = n x m in
      rw ((ok.sound x m).all_free p (omega arith) (omega arith))

  pub starts-shown : (p : ℕ) → starts_at p rs ≡ stretch_at P g p
  unfolding Keyed stretch_at
  starts-shown p = go (keyed (λ r. r.start) p rs)
    where
      go : Keyed (λ r. r.start) p rs (starts_at p rs) → starts_at p rs ≡ stretch_at P g p
      go (inl (x, m, e, l)) =
          let z : least (ends p) P ≡ x.len = least-is (ends p) P x.len (subst (λ (q : ℕ). Least (ends q) P x.len) e (length-is x m)) in
          rw (first-is x m p e) (sym l ∙ sym z)
      go (inr (z, n)) = z ∙ sym (none-starts p n (g p) refl)

-- ---- a state and its live set

module _ {B : List Block} (s : State) (wf : WellFormed s) (set : LiveSet B s.page) where
  -- a live block that covers p shows at p
  pub shows : (e : Block) → Mem e B → (p : ℕ) → covers e p ≡ true → kind_in e p ≡ kind_of (s.page p)
  unfolding Live On covers kind_in
  shows e m p c = let (q, x) = set.live e m in let (l, u) = on_page (s.page q) (wf.table.each q) q e x in go q (s.page q) refl x l u
    where
      near : (q n : ℕ) → s.page q ≡ taken n → q ≤ p → p < q + n → (q ≡ p) ⊎ (q ≢ p) → kind_in (large (4096 * q) n) p ≡ kind_of (s.page p)
      near q n h l u (inl z) = rw (eq-eqb (4096 * q / 4096) p (omega arith), ← z, h)
      near q n h l u (inr z) = rw (ne_eqb (4096 * q / 4096) p (λ y. z (omega arith)), wf.table.inner q n p h (omega arith) u)

      go : (q : ℕ) (y : Page) → s.page q ≡ y → On y q e → 4096 * q ≤ offset e → offset e < 4096 * q + 4096 → kind_in e p ≡ kind_of (s.page p)
      go q (slab d k) h (i, r, o, b, t) l u =
          let w : q ≡ p = omega (arith, small-covers (4096 * q + chunk d * i) d p (rw r at c), ap offset r) in
          rw (r, ← w, h)
      go q (taken n) h r l u = let (x, y) = large-covers q n p (rw r at c) in rw r (near q n h x y (eq? q p))
      go q edge h r l u = elim r [ ]
      go q inside h r l u = elim r [ ]
      go q idle h r l u = elim r [ ]

  -- a block begins in every class page
  pub slab_held : (p c : ℕ) (m : ℕ → Bool) → s.page p ≡ slab c m → (off : ℕ) × Mem (small off c) B × (off / 4096 ≡ p)
  unfolding Live On
  slab_held p c m h =
      let ok : ClassOk c m = slab_ok wf.table h in
      let (i, o, l, t) = some-taken c m ok.in_use in
      (4096 * p + chunk c * i, set.all (small (4096 * p + chunk c * i) c) (p, rw h (i, refl, o, l, t)), omega (arith, chunk-pos c, chunk-ends c ok.in_range i l))

  pub covered : (p : ℕ) → (kind_of (s.page p) ≡ vacant) ⊎ ((e : Block) × Mem e B × (covers e p ≡ true))
  unfolding Live On covers
  covered p = go (s.page p) refl
    where
      run : (q n : ℕ) → s.page q ≡ taken n → q ≤ p → p < q + n → (e : Block) × Mem e B × (covers e p ≡ true)
      run q n h l u = (large (4096 * q) n, set.all (large (4096 * q) n) (q, rw h refl), covers-large q n p l u)

      go : (y : Page) → s.page p ≡ y → (kind_of y ≡ vacant) ⊎ ((e : Block) × Mem e B × (covers e p ≡ true))
      go idle h = inl refl
      go edge h = inl refl
      go (slab c m) h = let (off, x, z) = slab_held p c m h in inr (small off c, x, eq-eqb (off / 4096) p z)
      go (taken n) h =
          let ok : 1 ≤ n = taken_ok wf.table h in
          inr (run p n h (omega arith) (omega arith))
      go inside h = let (q, n, z, l, u) = wf.table.owner p h in inr (run q n z (omega arith) u)

  pub page-shown : (p : ℕ) → kind_of (s.page p) ≡ kind_at B p
  page-shown p = sym (kind-is B p (kind_of (s.page p)) (λ e m c. shows e m p c) (covered p))

  -- ---- free runs

  pub free-shown : (p : ℕ) → free_page s.size B p ≡ is_idle (s.page p)
  unfolding free_page
  free-shown p = ap (λ (v : Kind). ltb p s.size && is_vacant v) (sym (page-shown p)) ∙ go (s.page p) refl (lt? p s.size)
    where
      go : (y : Page) → s.page p ≡ y → (p < s.size) ⊎ (s.size ≤ p) → ltb p s.size && is_vacant (kind_of (s.page p)) ≡ is_idle (s.page p)
      go y h (inr l) = rw (le-ltb p s.size l, wf.table.past p l)
      go idle h (inl l) = rw (lt-ltb p s.size l, h)
      go (slab c m) h (inl l) = rw (lt-ltb p s.size l, h)
      go (taken n) h (inl l) = rw (lt-ltb p s.size l, h)
      go inside h (inl l) = rw (lt-ltb p s.size l, h)
      go edge h (inl l) = absurd (omega (arith, wf.table.ends p h))

  pub run-shown : (p : ℕ) → starts_at p s.runs ≡ stretch_at s.size (free_page s.size B) p
  unfolding free_page
  run-shown p = starts-shown (runs_same wf.free_runs free-shown) s.size (λ j l. rw (le-ltb j s.size l)) p

  -- ---- marks

  slab-mark : (p c : ℕ) (m : ℕ → Bool) → s.page p ≡ slab c m → (i : ℕ) → m i ≡ mark_in B p (class c) i
  unfolding mark_in Live On
  slab-mark p c m h i = go (lt? i (chunks c)) (lt? i (own c))
    where
      ok : ClassOk c m
      ok = slab_ok wf.table h

      back : i < chunks c → begins B (4096 * p + chunk c * i) ≡ true → m i ≡ true
      back l e =
          let (d, n, z) = begins-mem B (4096 * p + chunk c * i) e in
          let (q, x) = set.live d n in
          let (a, b) = on_page (s.page q) (wf.table.each q) q d x in
          let y : q ≡ p = omega (arith, chunk-pos c, chunk-ends c ok.in_range i l) in
          at_p d (rw (y, h) at x) z
        where
          at_p : (d : Block) → On (slab c m) p d → offset d ≡ 4096 * p + chunk c * i → m i ≡ true
          at_p d (j, r, o, u, t) z =
              let w : offset d ≡ 4096 * p + chunk c * j = ap offset r in
              let k : j ≡ i = chunk_inj c j i (omega arith) in
              rw k at t

      there : own c ≤ i → i < chunks c → m i ≡ true → begins B (4096 * p + chunk c * i) ≡ true
      there o l e = begins_at B (small (4096 * p + chunk c * i) c) (set.all (small (4096 * p + chunk c * i) c) (p, rw h (i, refl, o, l, e)))

      go : (i < chunks c) ⊎ (chunks c ≤ i) → (i < own c) ⊎ (own c ≤ i) → m i ≡ ltb i (chunks c) && (ltb i (own c) || begins B (4096 * p + chunk c * i))
      go (inr l) o = rw (le-ltb i (chunks c) l) (ok.past_clear i l)
      go (inl l) (inl o) = rw (lt-ltb i (chunks c) l, lt-ltb i (own c) o) (ok.own-set i o)
      go (inl l) (inr o) = rw (lt-ltb i (chunks c) l, le-ltb i (own c) o) (same_test (m i) (begins B (4096 * p + chunk c * i)) (there o l) (back l))

  pub mark-shown : (p i : ℕ) → marks_of (s.page p) i ≡ mark_in B p (kind_at B p) i
  unfolding mark_in
  mark-shown p i = rw (← page-shown p) (go (s.page p) refl)
    where
      go : (y : Page) → s.page p ≡ y → marks_of y i ≡ mark_in B p (kind_of y) i
      go idle h = refl
      go (slab c m) h = slab-mark p c m h i
      go (taken n) h = refl
      go inside h = refl
      go edge h = refl
