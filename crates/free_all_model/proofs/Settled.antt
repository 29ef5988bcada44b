-- The trial against the single frees: what it settles, and what it answers.
use mathlib.Core.Path.{◌≡◌, refl, sym, ap, ◌∙◌}
use mathlib.Core.Logic.{◌⊎◌, inl, inr, ◌≢◌}
use mathlib.Core.Bool.{Bool, true, false, cond}
use Prim.Native.Nat.{ℕ, zero, suc, ◌+◌, ◌*◌, ◌/◌, ◌%◌, ◌≤◌, ◌<◌}
use native.Mathlib.Omega.{arith}
use lib.Dec.{eqb}
use Rattle.base.specs.Functions.{upd, fill}
use Rattle.base.proofs.Cases.{clash, never, eq?, lt?, in?, Out}
use Rattle.base.proofs.Functions.{upd_same, upd_other, fill_in, fill_out}
use Rattle.model.specs.Classes.{chunk, has_taken, starts_chunk}
use Rattle.model.specs.State.{Page, idle, slab, taken, inside, edge, State}
use Rattle.model.specs.WellFormed.{WellFormed}
use Rattle.model.specs.Calls.{Free, freed, no, not_taken, not_a_start, refuse, release, keep_page, drop_page, free_chunk, free_at, free, step}
use Rattle.model.specs.Ruling.{granted, verdict}
use Rattle.model.proofs.Classes.{chunk_start, chunk_index, none-taken, taken_at}
use Rattle.model.proofs.Table.{slab_ok, taken_ok}
use Rattle.free_all_model.specs.Mirror.{Trial, begun, is_first, first_below, settled_page, settled, tried_at, tried, tentative_at, tentative}

-- ---- the first page of a run, from a page inside it

pub first_below_lem : (f : ℕ → Page) (p n : ℕ) → f p ≡ taken n → (j : ℕ) → p < j → ((k : ℕ) → p < k → k < j → f k ≡ inside) → first_below f j ≡ p
unfolding first_below
first_below_lem f p n h zero l in-run = absurd (omega arith)
first_below_lem f p n h (suc j) l in-run = go (eq? j p) (λ d. first_below_lem f p n h j d (λ k a b. in-run k a (omega arith)))
  where
    go : (j ≡ p) ⊎ (j ≢ p) → (p < j → first_below f j ≡ p) → cond (is_first (f j)) j (first_below f j) ≡ p
    go (inl z) ih = rw (z, h)
    go (inr d) ih = rw (in-run j (omega arith) (omega arith)) (ih (omega arith))

first_same : (f g : ℕ → Page) → ((k : ℕ) → is_first (f k) ≡ is_first (g k)) → (j : ℕ) → first_below f j ≡ first_below g j
unfolding first_below
first_same f g e zero = refl
first_same f g e (suc j) = rw (e j, first_same f g e j)

-- ---- tentative pages that a well-formed state led to

pub record TrialOk (f : ℕ → Page) : Type 0 where
  pub in_range : (p c : ℕ) (m : ℕ → Bool) → f p ≡ slab c m → c ≤ 8
  pub some-page : (p n : ℕ) → f p ≡ taken n → 1 ≤ n
  pub inner : (p n j : ℕ) → f p ≡ taken n → p < j → j < p + n → f j ≡ inside
  pub owner : (j : ℕ) → f j ≡ inside → (p : ℕ) × (n : ℕ) × (f p ≡ taken n) × (p < j) × (j < p + n)

pub begun_ok : (s : State) → WellFormed s → TrialOk s.page
begun_ok s wf = record {
  in_range = λ p c m h. (slab_ok wf.table h).in_range;
  some-page = λ p n h. taken_ok wf.table h;
  inner = wf.table.inner;
  owner = wf.table.owner;
}

pub begun-settled : (s : State) → WellFormed s → (p : ℕ) → settled (begun s) p ≡ s.page p
unfolding begun settled settled_page
begun-settled s wf p = go (s.page p) refl
  where
    go : (x : Page) → s.page p ≡ x → settled_page (begun s) p x ≡ x
    go idle e = unfold settled_page in refl
    go (slab c m) e = unfold settled_page in (rw (slab_ok wf.table e).in_use)
    go (taken n) e = unfold settled_page begun in refl
    go inside e = unfold settled_page begun in refl
    go edge e = unfold settled_page in refl

-- a class page with other marks
slab-keeps : (f : ℕ → Page) → TrialOk f → (p c : ℕ) (m : ℕ → Bool) → f p ≡ slab c m → (m' : ℕ → Bool) → TrialOk (upd f p (slab c m'))
slab-keeps f ok p c m was m' = record {
  in_range = λ j d k h. range j d k h (eq? j p);
  some-page = λ j n h. ok.some-page j n (before j (taken n) h (λ z. never (cc)));
  inner = λ a n j h l u. after j (ok.inner a n j (before a (taken n) h (λ z. never (cc))) l u) (λ z. never (cc));
  owner = λ j h. there j (ok.owner j (before j inside h (λ z. never (cc))));
}
  where
    -- a page that is not of class c was the same before, and a page that was not is the same after
    before : (j : ℕ) (x : Page) → upd f p (slab c m') j ≡ x → slab c m' ≢ x → f j ≡ x
    before j x h d = go (eq? j p)
      where
        go : (j ≡ p) ⊎ (j ≢ p) → f j ≡ x
        go (inl z) = absurd (d (sym (upd_same f p (slab c m')) ∙ (rw z at h)))
        go (inr z) = sym (upd_other f p (slab c m') j z) ∙ h

    after : (j : ℕ) {x : Page} → f j ≡ x → slab c m ≢ x → upd f p (slab c m') j ≡ x
    after j {x} h d = go (eq? j p)
      where
        go : (j ≡ p) ⊎ (j ≢ p) → upd f p (slab c m') j ≡ x
        go (inl z) = absurd (d (sym was ∙ (rw z at h)))
        go (inr z) = upd_other f p (slab c m') j z ∙ h

    range : (j d : ℕ) (k : ℕ → Bool) → upd f p (slab c m') j ≡ slab d k → (j ≡ p) ⊎ (j ≢ p) → d ≤ 8
    range j d k h (inl z) =
        let e : slab c m' ≡ slab d k = sym (upd_same f p (slab c m')) ∙ (rw z at h) in
        let y : c ≡ d = cc in
        rw (sym y) (ok.in_range p c m was)
    range j d k h (inr z) = ok.in_range j d k (sym (upd_other f p (slab c m') j z) ∙ h)

    there : (j : ℕ) → (a : ℕ) × (n : ℕ) × (f a ≡ taken n) × (a < j) × (j < a + n) → (a : ℕ) × (n : ℕ) × (upd f p (slab c m') a ≡ taken n) × (a < j) × (j < a + n)
    there j (a, n, h, l, u) = (a, n, after a h (λ z. never (cc)), l, u)

-- an offset that is tentatively freed keeps them so
module _ (t : Trial) (ok : TrialOk t.page) where
  ok_at : (p q : ℕ) (x : Page) → t.page p ≡ x → TrialOk (tentative_at t p q x).page
  unfolding tentative_at
  ok_at p q idle e = ok
  ok_at p q (slab c m) e = slab-keeps t.page ok p c m e (upd m (q / chunk c) false)
  ok_at p q (taken n) e = ok
  ok_at p q inside e = ok
  ok_at p q edge e = ok

  pub keeps_ok : (off : ℕ) → TrialOk (tentative t off).page
  unfolding tentative
  keeps_ok off = ok_at (off / 4096) (off % 4096) (t.page (off / 4096)) refl

-- what a granted trial of an offset says of its page
abbrev pub GrantedAt : Trial → ℕ → ℕ → Page → Type 0
GrantedAt t p q idle = ⊥
GrantedAt t p q (slab c m) = (starts_chunk c q ≡ true) × (m (q / chunk c) ≡ true)
GrantedAt t p q (taken n) = (t.flag p ≡ false) × (eqb q 0 ≡ true)
GrantedAt t p q inside = ⊥
GrantedAt t p q edge = ⊥

pub granted-at : (t : Trial) (p q : ℕ) (x : Page) → verdict (tried_at t p q x) ≡ granted → GrantedAt t p q x
unfolding tried_at
granted-at t p q idle g = never (cc)
granted-at t p q (slab c m) g = go (starts_chunk c q) refl (m (q / chunk c)) refl (has_taken c m) refl
  where
    go : (b : Bool) → starts_chunk c q ≡ b → (k : Bool) → m (q / chunk c) ≡ k → (h : Bool) → has_taken c m ≡ h → (starts_chunk c q ≡ true) × (m (q / chunk c) ≡ true)
    go true b true k h d = (b, k)
    go true b false k h d = absurd (never (cc (rw (b, k) at g)))
    go false b k e true d = absurd (never (cc (rw (b, d) at g)))
    go false b k e false d = absurd (never (cc (rw (b, d) at g)))
granted-at t p q (taken n) g = go (t.flag p) refl (eqb q 0) refl
  where
    go : (f : Bool) → t.flag p ≡ f → (z : Bool) → eqb q 0 ≡ z → (t.flag p ≡ false) × (eqb q 0 ≡ true)
    go true f z d = absurd (never (cc (rw f at g)))
    go false f true d = (f, d)
    go false f false d = absurd (never (cc (rw (f, d) at g)))
granted-at t p q inside g = go (t.flag (first_below t.page p)) refl
  where
    go : (f : Bool) → t.flag (first_below t.page p) ≡ f → ⊥
    go true f = never (cc (rw f at g))
    go false f = never (cc (rw f at g))
granted-at t p q edge g = never (cc)

-- ---- one offset, on the state s that the tentative pages stand for

-- pages whose run's flag is the same are settled alike
settled_same : (t u : Trial) (p : ℕ) (x : Page) → u.flag p ≡ t.flag p → (x ≡ inside → u.flag (first_below u.page p) ≡ t.flag (first_below t.page p)) →
    settled_page u p x ≡ settled_page t p x
unfolding settled_page
settled_same t u p idle e h = refl
settled_same t u p (slab c m) e h = refl
settled_same t u p (taken n) e h = rw e
settled_same t u p inside e h = rw (h refl)
settled_same t u p edge e h = refl

module _ (t : Trial) (ok : TrialOk t.page) (s : State) (agrees : (p : ℕ) → settled t p ≡ s.page p) where
  -- a page that was emptied has no mark that a block could begin at
  emptied : (p c : ℕ) (m : ℕ → Bool) (q : ℕ) → t.page p ≡ slab c m → has_taken c m ≡ false → starts_chunk c q ≡ true → q < 4096 → m (q / chunk c) ≡ false
  emptied p c m q h none starts l =
      let (z, o) = chunk_start c q starts in
      none-taken c m none (q / chunk c) o (chunk_index c (ok.in_range p c m h) (q / chunk c) (omega arith))

  answer_at : (p q : ℕ) → q < 4096 → (x : Page) → t.page p ≡ x → tried_at t p q x ≡ (free_at s p q (settled_page t p x)).answer
  unfolding tried_at settled_page free_at refuse
  answer_at p q l idle e = refl
  answer_at p q l (slab c m) e = go (has_taken c m) refl (starts_chunk c q) refl (m (q / chunk c)) refl
    where
      go : (h : Bool) → has_taken c m ≡ h → (b : Bool) → starts_chunk c q ≡ b → (i : Bool) → m (q / chunk c) ≡ i →
          tried_at t p q (slab c m) ≡ (free_at s p q (settled_page t p (slab c m))).answer
      go true h true b true i = rw (h, b, i)
      go true h true b false i = rw (h, b, i)
      go true h false b i j = rw (h, b)
      go false h true b true i = absurd (clash i (emptied p c m q e h b l))
      go false h true b false i = rw (h, b, i)
      go false h false b i j = rw (h, b)
  answer_at p q l (taken n) e = go (t.flag p) (eqb q 0) refl
    where
      go : (f z : Bool) → eqb q 0 ≡ z → cond f (no not_taken) (cond (eqb q 0) (freed (4096 * n)) (no not_a_start)) ≡ (free_at s p q (cond f idle (taken n))).answer
      go true z d = refl
      go false true d = rw d
      go false false d = rw d
  answer_at p q l inside e = go (t.flag (first_below t.page p))
    where
      go : (f : Bool) → cond f (no not_taken) (no not_a_start) ≡ (free_at s p q (cond f idle inside)).answer
      go true = refl
      go false = refl
  answer_at p q l edge e = refl

  pub answers : (off : ℕ) → tried t off ≡ (step s (Free off)).answer
  unfolding tried settled step free
  answers off =
      answer_at (off / 4096) (off % 4096) (omega arith) (t.page (off / 4096)) refl
      ∙ ap (λ (x : Page). (free_at s (off / 4096) (off % 4096) x).answer) (agrees (off / 4096))

  -- ---- a chunk

  module _ (p c : ℕ) (m : ℕ → Bool) (i : ℕ) (was : t.page p ≡ slab c m) where
    abbrev m' : ℕ → Bool
    m' = upd m i false

    abbrev marked : Trial
    marked = record { page = upd t.page p (slab c m'); flag = t.flag }

    slab-first : (k : ℕ) → is_first (marked.page k) ≡ is_first (t.page k)
    slab-first k = go (eq? k p)
      where
        go : (k ≡ p) ⊎ (k ≢ p) → is_first (upd t.page p (slab c m') k) ≡ is_first (t.page k)
        go (inl z) = rw (z, was, upd_same t.page p (slab c m'))
        go (inr d) = rw (upd_other t.page p (slab c m') k d)

    -- another page
    marked_other : (j : ℕ) → j ≢ p → settled marked j ≡ s.page j
    unfolding settled
    marked_other j d =
        rw (upd_other t.page p (slab c m') j d)
        (settled_same t marked j (t.page j) refl (λ _. ap t.flag (first_same marked.page t.page slab-first j)) ∙ agrees j)

    -- the page itself
    marked_same : settled marked p ≡ cond (has_taken c m') (slab c m') idle
    unfolding settled settled_page
    marked_same = rw (upd_same t.page p (slab c m'))

    kept-pages : has_taken c m' ≡ true → (free_chunk s p c m i).page ≡ upd s.page p (slab c m')
    unfolding free_chunk keep_page
    kept-pages h = rw h

    dropped-pages : has_taken c m' ≡ false → (free_chunk s p c m i).page ≡ fill s.page p 1 idle
    unfolding free_chunk drop_page release
    dropped-pages h = rw h

    chunk-settled : (j : ℕ) → settled marked j ≡ (free_chunk s p c m i).page j
    chunk-settled j = go (has_taken c m') refl (eq? j p)
      where
        go : (h : Bool) → has_taken c m' ≡ h → (j ≡ p) ⊎ (j ≢ p) → settled marked j ≡ (free_chunk s p c m i).page j
        go true h (inl z) = rw (kept-pages h, z, marked_same, h) (sym (upd_same s.page p (slab c m')))
        go true h (inr d) = rw (kept-pages h) (marked_other j d ∙ sym (upd_other s.page p (slab c m') j d))
        go false h (inl z) = rw (dropped-pages h, z, marked_same, h) (sym (fill_in s.page p 1 idle p (omega arith) (omega arith)))
        go false h (inr d) = rw (dropped-pages h) (marked_other j d ∙ sym (fill_out s.page p 1 idle j (beside d (lt? j p))))
          where
            beside : j ≢ p → (j < p) ⊎ (p ≤ j) → Out p 1 j
            beside d (inl l) = inl l
            beside d (inr l) = inr (omega arith)

  -- ---- a run

  module _ (p n : ℕ) (was : t.page p ≡ taken n) where
    abbrev flagged : Trial
    flagged = record { page = t.page; flag = upd t.flag p true }

    -- a page of the run
    run_in : (j : ℕ) → p ≤ j → j < p + n → settled flagged j ≡ idle
    unfolding settled settled_page
    run_in j l u = go (eq? j p)
      where
        go : (j ≡ p) ⊎ (j ≢ p) → settled flagged j ≡ idle
        go (inl z) = rw (z, was, upd_same t.flag p true)
        go (inr d) =
            let here : t.page j ≡ inside = ok.inner p n j was (omega arith) u in
            let first : first_below t.page j ≡ p = first_below_lem t.page p n was j (omega arith) (λ k a b. ok.inner p n k was a (omega arith)) in
            rw (here, first, upd_same t.flag p true)

    -- another page: its run begins elsewhere
    run_out : (j : ℕ) → Out p n j → settled flagged j ≡ s.page j
    unfolding settled
    run_out j o = settled_same t flagged j (t.page j) (upd_other t.flag p true j (other o)) (λ h. upd_other t.flag p true (first_below t.page j) (elsewhere h o)) ∙ agrees j
      where
        other : Out p n j → j ≢ p
        other (inl l) z = omega arith
        other (inr l) z = omega (arith, ok.some-page p n was)

        elsewhere : t.page j ≡ inside → Out p n j → first_below t.page j ≢ p
        elsewhere h o z =
            let (q, k, first, l, u) = ok.owner j h in
            let y : first_below t.page j ≡ q = first_below_lem t.page q k first j l (λ i a b. ok.inner q k i first a (omega arith)) in
            let w : q ≡ p = sym y ∙ z in
            let first' : t.page p ≡ taken k = rw w at first in
            let v : k ≡ n = cc in
            away o (omega arith) (omega arith)
          where
            away : Out p n j → p < j → j < p + n → ⊥
            away (inl a) l u = omega arith
            away (inr a) l u = omega arith

    run_settled : (j : ℕ) → settled flagged j ≡ (release s p n).page j
    unfolding release
    run_settled j = go (in? p n j)
      where
        go : ((p ≤ j) × (j < p + n)) ⊎ Out p n j → settled flagged j ≡ fill s.page p n idle j
        go (inl (l, u)) = run_in j l u ∙ sym (fill_in s.page p n idle j l u)
        go (inr o) = run_out j o ∙ sym (fill_out s.page p n idle j o)

  -- ---- a granted free

  settles_at : (p q : ℕ) → q < 4096 → (x : Page) → t.page p ≡ x → GrantedAt t p q x →
      (j : ℕ) → settled (tentative_at t p q x) j ≡ (free_at s p q (settled_page t p x)).after.page j
  unfolding settled_page free_at tentative_at
  settles_at p q l (slab c m) e (b, k) j =
      let (z, o) = chunk_start c q b in
      let some : has_taken c m ≡ true = taken_at c m (q / chunk c) o (chunk_index c (ok.in_range p c m e) (q / chunk c) (omega arith)) k in
      rw (some, b, k) (chunk-settled p c m (q / chunk c) e j)
  settles_at p q l (taken n) e (f, d) j = rw (f, d) (run_settled p n e j)
  settles_at p q l edge e x5 j = elim x5 [ ]
  settles_at p q l inside e x4 j = elim x4 [ ]
  settles_at p q l idle e x3 j = elim x3 [ ]

  pub settles : (off : ℕ) → verdict (tried t off) ≡ granted → (j : ℕ) → settled (tentative t off) j ≡ (step s (Free off)).after.page j
  unfolding tried settled tentative step free
  settles off g j =
      settles_at (off / 4096) (off % 4096) (omega arith) (t.page (off / 4096)) refl (granted-at t (off / 4096) (off % 4096) (t.page (off / 4096)) g) j
      ∙ ap (λ (x : Page). (free_at s (off / 4096) (off % 4096) x).after.page j) (agrees (off / 4096))
