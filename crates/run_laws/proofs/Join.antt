-- Pages join the free runs on both sides, and the whole becomes the head: what the image shows then.
use mathlib.Core.Path.{◌≡◌, refl, sym, ap, ◌∙◌}
use mathlib.Core.Logic.{◌⊎◌, inl, inr, ⊎_elim, ◌≢◌}
use mathlib.Core.Bool.{Bool, true, false, not}
use mathlib.Core.List.{List, [], ◌∷◌}
use Prim.Native.Nat.{ℕ, ◌+◌, ◌-◌, ◌≤◌, ◌<◌}
use native.Mathlib.Omega.{arith}
use lib.Dec.{eqb}
use borrow.Author.Tests.{eqb-false, eq-eqb, ne_eqb, not-true}
use Rattle.base.specs.Tests.{pick}
use Rattle.base.specs.Functions.{fill}
use Rattle.base.specs.Lists.{Mem, NoDup, keep}
use Rattle.base.specs.Links.{others}
use Rattle.base.proofs.Cases.{clash, eq?, lt?, Out, in?}
use Rattle.base.proofs.Functions.{fill_in, fill_out}
use Rattle.base.proofs.Lists.{keep-mem, mem-keep, keep-once}
use Rattle.base.proofs.Neighbours.{eqb_iff}
use Rattle.records.specs.Layout.{no_page}
use Rattle.records.specs.declared.Links.{Links}
use Rattle.model.specs.State.{Page, idle, Run, is_idle}
use Rattle.model.specs.Runs.{end, starts_at, ends_at, clear_of, joined, join_runs}
use Rattle.model.specs.WellFormed.{Stretch, RunsOk}
use Rattle.model.proofs.Runs.{same_run, Keyed, keyed, released}
use Rattle.image.specs.Image.{Image}
use Rattle.image.specs.Update.{set_free}
use Rattle.lists.specs.Nodes.{first_in}
use Rattle.rules.specs.Drawn.{starts}
use Rattle.rules.proofs.Runs.{mem-start, start-mem}
use Rattle.shows.specs.Shows.{ShowsOn, ShowsLinks}
use Rattle.run_extents.specs.Mirror.{plain}
use Rattle.run_neighbours.specs.Mirror.{one_of}
use Rattle.run_laws.specs.OnImage.{fill_on, back_on, drop_on, joined_on, join_on, released_on}
use Rattle.run_laws.specs.Scene.{Scene}
use Rattle.run_laws.proofs.Starts.{keep_every, keep-both, starts-keep}
use Rattle.run_laws.proofs.Shown.{body, RunsShown, start-once, end-once, busy_start, runs-shown, shows-runs}
use Rattle.run_laws.proofs.Surgery.{Kept, kept-both, kept-links, kept-unlink, kept_back, kept_push, back_at, back-off, back-first, Heads, Clear, clear, clear_sub, shown-kept, near_next, near_prev, near_first, left-off, left-shown, fronted, push_list, push-off_list, push-new, push-head}

pub one_none : (n : ℕ) → n ≡ 0 → one_of n ≡ 0
unfolding one_of pick
one_none n e = rw (eq-eqb n 0 e)

pub one_some : (n : ℕ) → 1 ≤ n → one_of n ≡ 1
unfolding one_of pick
one_some n h = rw (ne_eqb n 0 (omega arith))

pub kept-drop : (J : Image) (n q : ℕ) → Kept J (drop_on J n q)
unfolding drop_on pick
kept-drop J n q = go (eq? n 0)
  where
    go : (n ≡ 0) ⊎ (n ≢ 0) → Kept J (drop_on J n q)
    go (inl e) = rw (eq-eqb n 0 e) (record { free_pages = refl; class = refl; map = refl })
    go (inr e) = rw (ne_eqb n 0 e) (kept-unlink J _)

-- the run with this key, n pages long, leaves the list; or there is none
module _ {rs : List Run} (C : Clear rs) {J : Image} (S : RunsShown rs J) (key : Run → ℕ) (v q n : ℕ)
    (known : ((x : Run) × Mem x rs × (key x ≡ v) × (x.start ≡ q) × (1 ≤ n)) ⊎ ((n ≡ 0) × ((x : Run) → Mem x rs → key x ≢ v)))
    (one : (x y : Run) → Mem x rs → Mem y rs → key x ≡ key y → x.start ≡ y.start)
    (two : (x y : Run) → Mem x rs → Mem y rs → x.start ≡ y.start → key x ≡ key y) where
  abbrev test : Run → Bool
  test x = not (eqb (key x) v)

  drop-shown : RunsShown (keep test rs) (drop_on J n q)
  unfolding drop_on pick others
  drop-shown = go known
    where
      go : ((x : Run) × Mem x rs × (key x ≡ v) × (x.start ≡ q) × (1 ≤ n)) ⊎ ((n ≡ 0) × ((x : Run) → Mem x rs → key x ≢ v)) → RunsShown (keep test rs) (drop_on J n q)
      go (inr (e, none)) = rw (eq-eqb n 0 e, keep_every test rs (λ x m. rw (ne_eqb (key x) v (none x m)))) S
      go (inl (x, m, kx, sx, pos)) =
          rw (ne_eqb n 0 (omega arith), ← sx)
          (left-shown C S x m (keep test rs)
          (starts-keep test (others x.start) rs (λ y c. ap not (eqb_iff (key y) v y.start x.start (λ e. one y x c m (e ∙ sym kx)) (λ e. two y x c m e ∙ kx))))
          (λ y c. (keep-mem test y rs c).0))

  drop-off : (j : ℕ) → j < no_page → ¬ Mem j (starts rs) → (drop_on J n q).links j ≡ J.links j
  unfolding drop_on pick
  drop-off j l d = go known
    where
      go : ((x : Run) × Mem x rs × (key x ≡ v) × (x.start ≡ q) × (1 ≤ n)) ⊎ ((n ≡ 0) × ((x : Run) → Mem x rs → key x ≢ v)) → (drop_on J n q).links j ≡ J.links j
      go (inr (e, none)) = rw (eq-eqb n 0 e)
      go (inl (x, m, kx, sx, pos)) = rw (ne_eqb n 0 (omega arith), ← sx) (left-off C S x m j l d)

-- ---- the k pages from p on, none of them free, join the runs that touch them

module _ {g : ℕ → Bool} {rs : List Run} (ok : RunsOk g rs) (low : (q : ℕ) → g q ≡ true → q < no_page) {J : Image} (S : RunsShown rs J)
    (p k : ℕ) (pos : 1 ≤ k) (busy : (j : ℕ) → p ≤ j → j < p + k → g j ≡ false) (in-pool : p + k ≤ no_page) where
  abbrev a : ℕ
  a = ends_at p rs

  abbrev b : ℕ
  b = starts_at (p + k) rs

  C : Clear rs
  C = clear ok low

  record LeftRun (x : Run) : Type 0 where
    on : Mem x rs
    ends : x.start + x.len ≡ p
    length : x.len ≡ a
    some : 1 ≤ a

  record RightRun (x : Run) : Type 0 where
    on : Mem x rs
    begins : x.start ≡ p + k
    length : x.len ≡ b
    some : 1 ≤ b

  abbrev Left : Type 0
  Left = ((x : Run) × LeftRun x) ⊎ ((a ≡ 0) × ((x : Run) → Mem x rs → end x ≢ p))

  abbrev Right : Type 0
  Right = ((x : Run) × RightRun x) ⊎ ((b ≡ 0) × ((x : Run) → Mem x rs → x.start ≢ p + k))

  left? : Left
  unfolding Keyed
  left? =
      ⊎_elim (λ (x, m, e, l). inl (x, record { on = m; ends = e; length = l; some = omega (arith, (ok.sound x m).some-page) })) inr (keyed end p rs)

  right? : Right
  unfolding Keyed
  right? =
      ⊎_elim (λ (x, m, e, l). inl (x, record { on = m; begins = e; length = l; some = omega (arith, (ok.sound x m).some-page) })) inr
      (keyed (λ r. r.start) (p + k) rs)

  pub a_fits : a ≤ p
  a_fits = ⊎_elim (λ h. omega (arith, h.1.ends, h.1.length)) (λ h. omega (arith, h.0)) left?

  pub b_fits : (P : ℕ) → ((q : ℕ) → g q ≡ true → q < P) → p + k ≤ P → p + k + b ≤ P
  b_fits P within h = go right?
    where
      go : Right → p + k + b ≤ P
      go (inl (x, R)) =
          let i : g (p + k + b - 1) ≡ true = (ok.sound x R.on).all_free (p + k + b - 1) (omega (arith, R.begins, R.some)) (omega (arith, R.begins, R.length, R.some)) in
          omega (arith, within (p + k + b - 1) i, R.some)
      go (inr (e, _)) = omega arith

  abbrev not_right : Run → Bool
  not_right x = not (eqb x.start (p + k))

  abbrev not_left : Run → Bool
  not_left x = not (eqb (end x) p)

  abbrev rs₁ : List Run
  rs₁ = keep not_right rs

  abbrev rs₂ : List Run
  rs₂ = keep not_left rs₁

  abbrev J₁ : Image
  J₁ = drop_on J b (p + k)

  abbrev J₂ : Image
  J₂ = drop_on J₁ a (p - a)

  known₁ : ((x : Run) × Mem x rs × (x.start ≡ p + k) × (x.start ≡ p + k) × (1 ≤ b)) ⊎ ((b ≡ 0) × ((x : Run) → Mem x rs → x.start ≢ p + k))
  known₁ = ⊎_elim (λ h. inl (h.0, h.1.on, h.1.begins, h.1.begins, h.1.some)) inr right?

  S₁ : RunsShown rs₁ J₁
  S₁ = drop-shown C S (λ r. r.start) (p + k) (p + k) b known₁ (λ x y m n e. e) (λ x y m n e. e)

  sub₁ : (x : Run) → Mem x rs₁ → Mem x rs
  sub₁ x m = (keep-mem not_right x rs m).0

  once-sub : (l : List Run) → NoDup l → ((x : Run) → Mem x l → Mem x rs) → NoDup (starts l)
  once-sub [] d sub = tt
  once-sub (y ∷ l) d sub = (λ m. twice (mem-start l y.start m), once-sub l d.1 (λ x m. sub x (inr m)))
    where
      twice : (x : Run) × Mem x l × (x.start ≡ y.start) → ⊥
      twice (x, m, e) = d.0 (rw (start-once ok y x (sub y (inl refl)) (sub x (inr m)) (sym e)) m)

  C₁ : Clear rs₁
  C₁ = clear_sub C rs₁ sub₁ (once-sub rs₁ (keep-once not_right rs ok.once) sub₁)

  known₂ : ((x : Run) × Mem x rs₁ × (end x ≡ p) × (x.start ≡ p - a) × (1 ≤ a)) ⊎ ((a ≡ 0) × ((x : Run) → Mem x rs₁ → end x ≢ p))
  known₂ =
      ⊎_elim
      (λ h. inl (h.0, mem-keep not_right h.0 rs h.1.on (rw (ne_eqb h.0.start (p + k) (omega (arith, h.1.ends)))), h.1.ends, omega (arith, h.1.ends, h.1.length), h.1.some))
      (λ h. inr (h.0, λ x m. h.1 x (sub₁ x m))) left?

  one₂ : (x y : Run) → Mem x rs₁ → Mem y rs₁ → end x ≡ end y → x.start ≡ y.start
  one₂ x y m n e = ap (λ (r : Run). r.start) (end-once ok x y (sub₁ x m) (sub₁ y n) e)

  two₂ : (x y : Run) → Mem x rs₁ → Mem y rs₁ → x.start ≡ y.start → end x ≡ end y
  two₂ x y m n e = ap end (start-once ok x y (sub₁ x m) (sub₁ y n) e)

  S₂ : RunsShown rs₂ J₂
  S₂ = drop-shown C₁ S₁ end p (p - a) a known₂ one₂ two₂

  off₂ : (j : ℕ) → j < no_page → ¬ Mem j (starts rs) → J₂.links j ≡ J.links j
  off₂ j l d =
      drop-off C₁ S₁ end p (p - a) a known₂ one₂ two₂ j l (λ m. let (x, n, e) = mem-start rs₁ j m in d (rw (← e) (start-mem rs x (sub₁ x n))))
      ∙ drop-off C S (λ r. r.start) (p + k) (p + k) b known₁ (λ x y m n e. e) (λ x y m n e. e) j l d

  sub₂ : (x : Run) → Mem x rs₂ → Mem x rs
  sub₂ x m = sub₁ x (keep-mem not_left x rs₁ m).0

  C₂ : Clear rs₂
  C₂ = clear_sub C rs₂ sub₂ (once-sub rs₂ (keep-once not_left rs₁ (keep-once not_right rs ok.once)) sub₂)

  -- the runs that stay touch nothing
  far : (x : Run) → Mem x rs₂ → (end x ≢ p) × (x.start ≢ p + k)
  far x m =
      let (n, t) = keep-mem not_left x rs₁ m in
      (eqb-false (end x) p (not-true _ t), eqb-false x.start (p + k) (not-true _ (keep-mem not_right x rs n).1))

  -- a page is outside of the joined run, or of the run before, of the k pages, or of the run after
  data Where (j : ℕ) : Type 0 where
    out : Out (p - a) (a + k + b) j → Where j
    left : (x : Run) → LeftRun x → x.start ≤ j → j < p → Where j
    mid : p ≤ j → j < p + k → Where j
    right : (x : Run) → RightRun x → p + k ≤ j → j < x.start + x.len → Where j

  where? : (j : ℕ) → Where j
  where? j = go (lt? j (p - a)) (lt? j p) (lt? j (p + k)) (lt? j (p + k + b)) left? right?
    where
      go : (j < p - a) ⊎ (p - a ≤ j) → (j < p) ⊎ (p ≤ j) → (j < p + k) ⊎ (p + k ≤ j) → (j < p + k + b) ⊎ (p + k + b ≤ j) → Left → Right → Where j
      go (inl h) _ _ _ _ _ = out (inl h)
      go (inr h) (inl i) _ _ (inl (x, L)) _ = left x L (omega (arith, L.ends, L.length)) i
      go (inr h) (inl i) _ _ (inr (e, _)) _ = absurd (omega arith)
      go (inr h) (inr i) (inl u) _ _ _ = mid i u
      go (inr h) (inr i) (inr u) (inl v) _ (inl (x, R)) = right x R u (omega (arith, R.begins, R.length))
      go (inr h) (inr i) (inr u) (inl v) _ (inr (e, _)) = absurd (omega arith)
      go (inr h) (inr i) (inr u) (inr v) _ _ = out (inr (omega (arith, a_fits)))

  -- no page of the runs that stay is in the joined run
  outside : (x : Run) → Mem x rs₂ → (j : ℕ) → x.start ≤ j → j < x.start + x.len → Out (p - a) (a + k + b) j
  outside x m j c d = go (where? j)
    where
      X : Stretch g x
      X = ok.sound x (sub₂ x m)

      go : Where j → Out (p - a) (a + k + b) j
      go (out o) = o
      go (left y L u v) = absurd ((far x m).0 (ap end (same_run X (ok.sound y L.on) j c d u (omega (arith, L.ends))) ∙ L.ends))
      go (mid u v) = absurd (clash (X.all_free j c d) (busy j u v))
      go (right y R u v) = absurd ((far x m).1 (ap (λ (r : Run). r.start) (same_run X (ok.sound y R.on) j c d (omega (arith, R.begins)) v) ∙ R.begins))

  -- nor is a page that is not free and none of the k pages
  busy_out : (j : ℕ) → g j ≡ false → Out p k j → Out (p - a) (a + k + b) j
  busy_out j e o = go (where? j)
    where
      not_mid : Out p k j → p ≤ j → j < p + k → ⊥
      not_mid (inl h) u v = omega arith
      not_mid (inr h) u v = omega arith

      go : Where j → Out (p - a) (a + k + b) j
      go (out w) = w
      go (left y L u v) = absurd (clash ((ok.sound y L.on).all_free j u (omega (arith, L.ends))) e)
      go (mid u v) = absurd (not_mid o u v)
      go (right y R u v) = absurd (clash ((ok.sound y R.on).all_free j (omega (arith, R.begins)) v) e)

  -- the joined run lies in the pool
  whole-low : (j : ℕ) → p - a ≤ j → j < p - a + (a + k + b) → j < no_page
  whole-low j c d = go (where? j)
    where
      go : Where j → j < no_page
      go (out (inl h)) = absurd (omega arith)
      go (out (inr h)) = absurd (omega arith)
      go (left y L u v) = C.low y L.on j u (omega (arith, L.ends))
      go (mid u v) = omega arith
      go (right y R u v) = C.low y R.on j (omega (arith, R.begins)) v

  -- and a page of it starts no run that stays
  new : (j : ℕ) → p - a ≤ j → j < p - a + (a + k + b) → ¬ Mem j (starts rs₂)
  new j c d m =
      let (x, n, e) = mem-start rs₂ j m in
      ⊎_elim (λ h. omega arith) (λ h. omega arith) (outside x n j (omega arith) (omega (arith, C.some-page x (sub₂ x n))))

  -- the pages around the two runs
  abbrev pub Close : Links → Type 0
  Close l = ((l.prev.0 ≡ no_page) ⊎ Mem l.prev.0 (starts rs)) × ((l.next.0 ≡ no_page) ⊎ Mem l.next.0 (starts rs))

  pub close_right : b ≢ 0 → Close (J.links (p + k))
  close_right d = go right?
    where
      go : Right → Close (J.links (p + k))
      go (inl (x, R)) = rw (← R.begins) (near_prev C S x R.on, near_next C S x R.on)
      go (inr (e, _)) = absurd (d e)

  lift₁ : (v : ℕ) → (v ≡ no_page) ⊎ Mem v (starts rs₁) → (v ≡ no_page) ⊎ Mem v (starts rs)
  lift₁ v (inl e) = inl e
  lift₁ v (inr m) = let (x, n, e) = mem-start rs₁ v m in inr (rw (← e) (start-mem rs x (sub₁ x n)))

  pub close_left : a ≢ 0 → Close ((drop_on J b (p + k)).links (p - a))
  close_left d = go known₂
    where
      go : ((x : Run) × Mem x rs₁ × (end x ≡ p) × (x.start ≡ p - a) × (1 ≤ a)) ⊎ ((a ≡ 0) × ((x : Run) → Mem x rs₁ → end x ≢ p)) → Close (J₁.links (p - a))
      go (inl (x, m, _, e, _)) = rw (← e) (lift₁ _ (near_prev C₁ S₁ x m), lift₁ _ (near_next C₁ S₁ x m))
      go (inr (e, _)) = absurd (d e)

  -- ---- the records of the joined run

  abbrev blank : Links
  blank = plain 0 0 no_page

  abbrev J₃ : Image
  J₃ = fill_on J₂ (p - one_of a) (one_of a + k + one_of b) blank

  abbrev J₄ : Image
  J₄ = back_on J₃ (p - a) (a + k + b)

  -- what is filled lies within
  filled_in : (j : ℕ) → Out (p - a) (a + k + b) j → Out (p - one_of a) (one_of a + k + one_of b) j
  filled_in j o = go left? right? o
    where
      go : Left → Right → Out (p - a) (a + k + b) j → Out (p - one_of a) (one_of a + k + one_of b) j
      go L R (inl h) = inl (side L)
        where
          side : Left → j < p - one_of a
          side (inl (x, y)) = omega (arith, one_some a y.some, y.some)
          side (inr (e, _)) = omega (arith, one_none a e)
      go L R (inr h) = inr (side L R)
        where
          side : Left → Right → p - one_of a + (one_of a + k + one_of b) ≤ j
          side (inl (x, y)) (inl (u, v)) = omega (arith, one_some a y.some, one_some b v.some, y.some, v.some, a_fits)
          side (inl (x, y)) (inr (d, _)) = omega (arith, one_some a y.some, one_none b d, y.some, a_fits)
          side (inr (e, _)) (inl (u, v)) = omega (arith, one_none a e, one_some b v.some, v.some, a_fits)
          side (inr (e, _)) (inr (d, _)) = omega (arith, one_none a e, one_none b d, a_fits)

  off₄ : (j : ℕ) → Out (p - a) (a + k + b) j → J₄.links j ≡ J₂.links j
  off₄ j o =
      back-off J₃ (p - a) (a + k + b) j (λ h. not_last o) ∙ fill_out J₂.links (p - one_of a) (one_of a + k + one_of b) blank j (filled_in j o)
    where
      not_last : Out (p - a) (a + k + b) j → j ≢ p - a + (a + k + b - 1)
      not_last (inl h) = omega arith
      not_last (inr h) = omega arith

  S₄ : RunsShown rs₂ J₄
  S₄ = shown-kept C₂ J₄ S₂ (back-first J₃ (p - a) (a + k + b)) (λ x m j c d. off₄ j (outside x m j c d))

  pub close_first : (first_in (joined_on J p k a b) 0 ≡ no_page) ⊎ Mem (first_in (joined_on J p k a b) 0) (starts rs)
  unfolding joined_on
  close_first = go (near_first C₂ S₄)
    where
      go : (first_in J₄ 0 ≡ no_page) ⊎ Mem (first_in J₄ 0) (starts rs₂) → (first_in J₄ 0 ≡ no_page) ⊎ Mem (first_in J₄ 0) (starts rs)
      go (inl e) = inl e
      go (inr m) = let (x, n, e) = mem-start rs₂ (first_in J₄ 0) m in inr (rw (← e) (start-mem rs x (sub₂ x n)))

  -- pages of the runs at both sides that are not filled are inside pages already
  inner₂ : (j : ℕ) → p - a < j → j < p - a + (a + k + b) → j ≢ p - a + (a + k + b - 1) → J₃.links j ≡ blank
  inner₂ j c d n = go (in? (p - one_of a) (one_of a + k + one_of b) j) (where? j)
    where
      go : ((p - one_of a ≤ j) × (j < p - one_of a + (one_of a + k + one_of b))) ⊎ Out (p - one_of a) (one_of a + k + one_of b) j → Where j → J₃.links j ≡ blank
      go (inl (u, v)) w = fill_in J₂.links (p - one_of a) (one_of a + k + one_of b) blank j u v
      go (inr o) w = fill_out J₂.links (p - one_of a) (one_of a + k + one_of b) blank j o ∙ side o w
        where
          one_fits : one_of a ≤ p
          one_fits = ⊎_elim (λ h. omega (arith, one_some a h.1.some, h.1.some, a_fits)) (λ h. omega (arith, one_none a h.0)) left?

          body_blank : (x : Run) → Mem x rs → x.start < j → j < x.start + x.len → j + 1 ≢ x.start + x.len → J₂.links j ≡ blank
          body_blank x m u v e =
              off₂ j (C.low x m j (omega arith) v) (C.inner x m j u v) ∙ S.bodies x m j u v
              ∙ (unfold body pick in rw (ne_eqb (j + 1) (x.start + x.len) e))

          side : Out (p - one_of a) (one_of a + k + one_of b) j → Where j → J₂.links j ≡ blank
          side o (out (inl h)) = absurd (omega arith)
          side o (out (inr h)) = absurd (omega arith)
          side (inl h) (left x L u v) =
              body_blank x L.on (omega (arith, L.ends, L.length)) (omega (arith, L.ends)) (omega (arith, L.ends, L.some, one_some a L.some))
          side (inr h) (left x L u v) = absurd (omega (arith, one_fits))
          side (inl h) (mid u v) = absurd (omega arith)
          side (inr h) (mid u v) = absurd (omega (arith, one_fits))
          side (inl h) (right x R u v) = absurd (omega arith)
          side (inr h) (right x R u v) =
              body_blank x R.on (omega (arith, R.begins, R.some, one_some b R.some, one_fits)) v
              (λ e. n (omega (arith, R.begins, R.length, a_fits)))

  abbrev whole : Run
  whole = record { start = p - a; len = a + k + b }

  abbrev joining : Image
  joining = join_on J p k a b

  start-low : p - a < no_page
  start-low = whole-low (p - a) (omega arith) (omega arith)

  start-new : ¬ Mem (p - a) (starts rs₂)
  start-new = new (p - a) (omega arith) (omega arith)

  whole_body : (j : ℕ) → p - a < j → j < p - a + (a + k + b) → J₄.links j ≡ body whole j
  whole_body j c d = go (eq? j (p - a + (a + k + b - 1)))
    where
      go : (j ≡ p - a + (a + k + b - 1)) ⊎ (j ≢ p - a + (a + k + b - 1)) → J₄.links j ≡ body whole j
      go (inl e) =
          unfold body pick in
          rw (eq-eqb (j + 1) (p - a + (a + k + b)) (omega arith)) (ap J₄.links e ∙ back_at J₃ (p - a) (a + k + b) (omega arith))
      go (inr e) =
          unfold body pick in
          rw (ne_eqb (j + 1) (p - a + (a + k + b)) (omega arith)) (back-off J₃ (p - a) (a + k + b) j (λ h. e) ∙ inner₂ j c d e)

  pub join-shown : RunsShown (join_runs p k rs) joining
  unfolding join_on joined_on join_runs joined clear_of
  join-shown =
      rw (keep-both (clear_of p k) not_left not_right rs (λ x. refl))
      (record {
        list = push_list C₂ S₄ (p - a) (a + k + b) start-low start-new;
        heads = head;
        bodies = inner;
      })
    where
      head : (x : Run) → Mem x (whole ∷ rs₂) → Heads x.len ((fronted C₂ S₄ (p - a) (a + k + b) start-low start-new).links x.start)
      head x (inl e) = rw e (push-new C₂ S₄ (p - a) (a + k + b) start-low start-new)
      head x (inr m) = push-head C₂ S₄ (p - a) (a + k + b) start-low start-new x m

      inner : (x : Run) → Mem x (whole ∷ rs₂) → (q : ℕ) → x.start < q → q < x.start + x.len
          → (fronted C₂ S₄ (p - a) (a + k + b) start-low start-new).links q ≡ body x q
      inner x (inl e) q c d = rw e (here q (rw e at c) (rw e at d))
        where
          here : (q : ℕ) → p - a < q → q < p - a + (a + k + b) → (fronted C₂ S₄ (p - a) (a + k + b) start-low start-new).links q ≡ body whole q
          here q c d =
              push-off_list C₂ S₄ (p - a) (a + k + b) start-low start-new q (whole-low q (omega arith) d) (new q (omega arith) d) (omega arith) ∙ whole_body q c d
      inner x (inr m) q c d =
          push-off_list C₂ S₄ (p - a) (a + k + b) start-low start-new q (C₂.low x m q (omega arith) d) (C₂.inner x m q c d)
          (λ e. ⊎_elim (λ h. omega arith) (λ h. omega arith) (outside x m q (omega arith) d))
          ∙ S₄.bodies x m q c d

  -- a page that is not free and none of the k pages keeps its record
  pub join-off : (q : ℕ) → q < no_page → g q ≡ false → Out p k q → joining.links q ≡ J.links q
  unfolding join_on joined_on
  join-off q l e o =
      let w : Out (p - a) (a + k + b) q = busy_out q e o in
      push-off_list C₂ S₄ (p - a) (a + k + b) start-low start-new q l
      (λ m. let (x, n, d) = mem-start rs₂ q m in busy_start ok q e (rw (← d) (start-mem rs x (sub₂ x n))))
      (λ d. ⊎_elim (λ h. omega arith) (λ h. omega arith) w)
      ∙ off₄ q w ∙ off₂ q l (busy_start ok q e)

pub join_kept : (J : Image) (p k a b : ℕ) → Kept J (join_on J p k a b)
unfolding join_on joined_on
join_kept J p k a b =
    kept-both (kept-both (kept-both (kept-drop J b (p + k)) (kept-drop _ a (p - a))) (kept-links _ _)) (kept-both (kept_back _ _ _) (kept_push _ _ _))

-- ---- page by page

module _ {P : ℕ} {page : ℕ → Page} {rs : List Run} {ls : ℕ → List ℕ} (T : Scene P page rs ls) (p k : ℕ) {J : Image}
    (S : ShowsOn (λ q. (q < P) × Out p k q) page rs ls J) (pos : 1 ≤ k) (in-pool : p + k ≤ P)
    (busy : (q : ℕ) → p ≤ q → q < p + k → is_idle (page q) ≡ false)
    (off : (c q : ℕ) → c ≤ 8 → p ≤ q → q < p + k → ¬ Mem q (ls c)) where
  pub free-low : (q : ℕ) → is_idle (page q) ≡ true → q < no_page
  free-low q i = omega (arith, T.idle_in q i, T.few)

  pub free_on : (q : ℕ) → is_idle (page q) ≡ true → (q < P) × Out p k q
  free_on q i = (T.idle_in q i, go (in? p k q))
    where
      go : ((p ≤ q) × (q < p + k)) ⊎ Out p k q → Out p k q
      go (inl (u, v)) = absurd (clash i (busy q u v))
      go (inr o) = o

  class_out : (c q : ℕ) → c ≤ 8 → Mem q (ls c) → Out p k q
  class_out c q l m = go (in? p k q)
    where
      go : ((p ≤ q) × (q < p + k)) ⊎ Out p k q → Out p k q
      go (inl (u, v)) = absurd (off c q l u v m)
      go (inr o) = o

  -- the header's count is changed first
  abbrev pub J₀ : Image
  J₀ = set_free J (J.free_pages + k)

  pub counted : RunsShown rs J₀
  counted = shown-kept (clear T.runs free-low) J₀ (runs-shown T S free_on) refl (λ x m q c d. refl)

  released-kept : Kept J₀ (released_on J p k (ends_at p rs) (starts_at (p + k) rs))
  unfolding released_on
  released-kept = join_kept J₀ p k (ends_at p rs) (starts_at (p + k) rs)

  pub released-pages : (released_on J p k (ends_at p rs) (starts_at (p + k) rs)).free_pages ≡ J.free_pages + k
  released-pages = released-kept.free_pages

  pub released-class : (released_on J p k (ends_at p rs) (starts_at (p + k) rs)).class ≡ J.class
  released-class = released-kept.class

  pub released-map : (released_on J p k (ends_at p rs) (starts_at (p + k) rs)).map ≡ J.map
  released-map = released-kept.map

  abbrev pub page₁ : ℕ → Page
  page₁ = fill page p k idle

  same : (q : ℕ) → Out p k q → page₁ q ≡ page q
  same q o = fill_out page p k idle q o

  freed : (q : ℕ) → p ≤ q → q < p + k → is_idle (page₁ q) ≡ true
  freed q u v = ap is_idle (fill_in page p k idle q u v)

  runs' : RunsOk (λ j. is_idle (page₁ j)) (join_runs p k rs)
  runs' = released T.runs p k pos busy freed (λ q o. ap is_idle (same q o))

  pub released-shows : ShowsLinks P page₁ (join_runs p k rs) ls (released_on J p k (ends_at p rs) (starts_at (p + k) rs))
  unfolding released_on
  released-shows =
      shows-runs T S page₁ (join_runs p k rs) (released_on J p k (ends_at p rs) (starts_at (p + k) rs)) p k runs'
      (join-shown T.runs free-low counted p k pos busy (omega (arith, T.few))) same (λ q l o. (l, o)) (λ q l i. (l, go q i (in? p k q))) class_out
      released-class (λ q l i o. join-off T.runs free-low counted p k pos busy (omega (arith, T.few)) q (omega (arith, T.few)) i o)
    where
      go : (q : ℕ) → is_idle (page₁ q) ≡ false → ((p ≤ q) × (q < p + k)) ⊎ Out p k q → Out p k q
      go q i (inl (u, v)) = absurd (clash (freed q u v) i)
      go q i (inr o) = o
