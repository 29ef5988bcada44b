-- The fields of a well-formed state: the pages are read back, and each page has the fields of its kind.
use mathlib.Core.Path.{◌≡◌, refl, sym, ap, ap₂, ◌∙◌}
use mathlib.Core.Logic.{◌⊎◌, inl, inr, ◌≢◌}
use mathlib.Core.Bool.{Bool, false}
use Prim.Native.Nat.{ℕ, zero, suc, ◌+◌, ◌-◌, ◌*◌, ◌%◌, ◌^◌, ◌≤◌, ◌<◌}
use native.Mathlib.Omega.{arith}
use native.Mathlib.Nat.{mul-mod_left}
use borrow.Author.Tests.{eq-eqb, ne_eqb, lt-ltb, le-ltb}
use Rattle.base.specs.Lists.{Mem}
use Rattle.base.proofs.Cases.{eq?, lt?, never, clash}
use Rattle.base.proofs.AllBelow.{pick_yes, pick_no}
use Rattle.records.specs.Layout.{no_page}
use Rattle.records.specs.declared.Links.{Links}
use Rattle.model.specs.Classes.{chunks}
use Rattle.model.specs.State.{Page, idle, slab, taken, inside, edge, Run, State, is_idle, marks_of}
use Rattle.model.specs.Runs.{starts_at, ends_at}
use Rattle.model.specs.WellFormed.{Stretch, RunsOk, WellFormed}
use Rattle.model.proofs.Classes.{bitmap_in_record}
use Rattle.model.proofs.Runs.{starts_at_lem, ends_at_lem}
use Rattle.model.proofs.Table.{is_idle_lem, in_table, slab_ok, taken_ok}
use Rattle.maps.specs.Bitmap.{bits_of}
use Rattle.maps.proofs.Bits.{bits_join}
use Rattle.rules.specs.Fields.{Fields, kind, class, run, next, prev, map, page_at}
use Rattle.rules.specs.Drawn.{starts, links, on_list, back_link, free_links, page_links, map_of, state_image, state_fields}
use Rattle.model.proofs.Classes.{own-none}
use Rattle.rules.specs.Plain.{LiesIn, Inside, First, ClassPage, Shape, Rule2}
use Rattle.rules.proofs.Pages.{page-past, page-idle, page-kind}
use Rattle.rules.proofs.Runs.{started, ended, start-some, inner_start}

-- ---- maps in the page's record
bits_clear : (m : ℕ → Bool) (d : ℕ) → ((i : ℕ) → m i ≡ false) → bits_of m d ≡ 0
unfolding bits_of
bits_clear m zero h = refl
bits_clear m (suc d) h = rw (h d, bits_clear m d h)

-- marks that are clear from a on leave the low bits 0
bits_low : (m : ℕ → Bool) (T a : ℕ) → a ≤ T → ((i : ℕ) → a ≤ i → m i ≡ false) → bits_of m T % 2 ^ (T - a) ≡ 0
bits_low m T a h e =
    let d : ℕ = T - a in
    let z : a + d ≡ T = omega arith in
    let y : bits_of m T ≡ bits_of m a * 2 ^ d =
    ap (bits_of m) (sym z) ∙ bits_join m a d ∙ rw (bits_clear (λ i. m (a + i)) d (λ i. e (a + i) (omega arith))) (omega arith) in
    rw y (mul-mod_left (bits_of m a) (2 ^ d))

kind-is : {k l : Links} → k ≡ l → k.kind ≡ l.kind
kind-is e = ap (λ (l : Links). l.kind) e

module _ {m : State} (W : WellFormed m) where
  abbrev v : Fields
  v = state_fields m

  abbrev n : ℕ
  n = m.size

  G : RunsOk (λ j. is_idle (m.page j)) m.runs
  G = W.free_runs

  -- ---- by what the page is
  pub links_are : (p : ℕ) (x : Page) → m.page p ≡ x → v.image.links p ≡ page_links m.runs m.lists p x
  unfolding state_fields state_image
  links_are p x e = ap (page_links m.runs m.lists p) e

  pub map_are : (p : ℕ) (x : Page) → m.page p ≡ x → map v p ≡ map_of x
  unfolding state_fields state_image
  map_are p x e = ap map_of e

  marks_are : (p c : ℕ) (k : ℕ → Bool) → m.page p ≡ slab c k → v.mark p ≡ k
  unfolding state_fields
  marks_are p c k e = ap (λ (x : Page). λ (i : ℕ). marks_of x i) e

  inner-links : (p : ℕ) → m.page p ≡ idle → starts_at p m.runs ≡ 0 → v.image.links p ≡ links 0 0 0 no_page (back_link m.runs p)
  unfolding free_links
  inner-links p e z = links_are p idle e ∙ pick_yes _ _ _ (eq-eqb _ 0 z)

  head-links : (p : ℕ) → m.page p ≡ idle → starts_at p m.runs ≢ 0 → v.image.links p ≡ on_list 1 0 (starts_at p m.runs) p (starts m.runs)
  unfolding free_links
  head-links p e z = links_are p idle e ∙ pick_no _ _ _ (ne_eqb _ 0 z)

  idle-low : (p : ℕ) → m.page p ≡ idle → kind v p ≤ 1
  idle-low p e = go (eq? (starts_at p m.runs) 0)
    where
      go : (starts_at p m.runs ≡ 0) ⊎ (starts_at p m.runs ≢ 0) → kind v p ≤ 1
      go (inl z) = omega (arith, kind-is (inner-links p e z))
      go (inr z) = omega (arith, kind-is (head-links p e z))

  -- ---- the pages are read back
  pub page_back : (p : ℕ) → page_at v n p ≡ m.page p
  page_back p = place (lt? p n)
    where
      go : p < n → (x : Page) → m.page p ≡ x → page_at v n p ≡ x
      go h idle e = page-idle v n p h (idle-low p e)
      go h (slab c k) e =
          let L = links_are p (slab c k) e in
          page-kind v n p 2 h (kind-is L) ∙ ap₂ slab (ap (λ (l : Links). l.class) L) (marks_are p c k e)
      go h (taken x) e = let L = links_are p (taken x) e in page-kind v n p 3 h (kind-is L) ∙ ap taken (ap (λ (l : Links). l.run) L)
      go h inside e = page-kind v n p 4 h (kind-is (links_are p inside e))
      go h edge e = absurd (omega (arith, W.table.ends p e))

      place : (p < n) ⊎ (n ≤ p) → page_at v n p ≡ m.page p
      place (inl h) = go h (m.page p) refl
      place (inr h) = page-past v n p h ∙ sym (W.table.past p h)

  -- ---- by the page's kind
  idle-is : (p : ℕ) → p < n → kind v p ≤ 1 → m.page p ≡ idle
  idle-is p h k = sym (page_back p) ∙ page-idle v n p h k

  pub slab-is : (p : ℕ) → p < n → kind v p ≡ 2 → m.page p ≡ slab (class v p) (v.mark p)
  slab-is p h k = sym (page_back p) ∙ page-kind v n p 2 h k

  taken_is : (p : ℕ) → p < n → kind v p ≡ 3 → m.page p ≡ taken (run v p)
  taken_is p h k = sym (page_back p) ∙ page-kind v n p 3 h k

  inside_is : (p : ℕ) → p < n → kind v p ≡ 4 → m.page p ≡ inside
  inside_is p h k = sym (page_back p) ∙ page-kind v n p 4 h k

  pub head-is : (p : ℕ) → p < n → kind v p ≡ 1 → (m.page p ≡ idle) × (starts_at p m.runs ≢ 0)
  head-is p h k = let e = idle-is p h (omega arith) in (e, λ z. absurd (omega (arith, kind-is (inner-links p e z))))

  inner-is : (p : ℕ) → p < n → kind v p ≡ 0 → (m.page p ≡ idle) × (starts_at p m.runs ≡ 0)
  inner-is p h k = let e = idle-is p h (omega arith) in (e, go e (eq? (starts_at p m.runs) 0))
    where
      go : m.page p ≡ idle → (starts_at p m.runs ≡ 0) ⊎ (starts_at p m.runs ≢ 0) → starts_at p m.runs ≡ 0
      go e (inl z) = z
      go e (inr z) = absurd (omega (arith, kind-is (head-links p e z)))

  -- ---- a listed free run
  module _ (r : Run) (rm : Mem r m.runs) where
    F : Stretch (λ j. is_idle (m.page j)) r
    F = G.sound r rm

    run-idle : (j : ℕ) → r.start ≤ j → j < r.start + r.len → m.page j ≡ idle
    run-idle j a b = is_idle_lem _ (F.all_free j a b)

    pub run-within : r.start + r.len ≤ m.size
    run-within =
        let s : 1 ≤ r.len = F.some-page in
        let e : m.page (r.start + r.len - 1) ≡ idle = run-idle (r.start + r.len - 1) (omega arith) (omega arith) in
        omega (arith, in_table W.table (r.start + r.len - 1) (λ z. never (cc)))

    -- its first page
    pub run-links : v.image.links r.start ≡ on_list 1 0 r.len r.start (starts m.runs)
    run-links =
        head-links r.start (run-idle r.start (omega arith) (omega (arith, F.some-page))) (start-some G r rm)
        ∙ ap (λ (k : ℕ). on_list 1 0 k r.start (starts m.runs)) (starts_at_lem G r rm)

  inner-prev : (p : ℕ) → m.page p ≡ idle → starts_at p m.runs ≡ 0 → prev v p ≡ back_link m.runs p
  inner-prev p e z = ap (λ (l : Links). l.prev.0) (inner-links p e z)

  shows-inside_free : (p : ℕ) → p < n → kind v p ≡ 0 → Inside v n 1 p
  unfolding LiesIn
  shows-inside_free p h k =
      let (e, z) = inner-is p h k in
      let L = inner-links p e z in
      let (r, rm, a, b) = G.covers p (ap is_idle e) in
      let d : r.start ≢ p = λ y. start-some G r rm (ap (λ (x : ℕ). starts_at x m.runs) y ∙ z) in
      let R = run-links r rm in
      let l : run v r.start ≡ r.len = ap (λ (l : Links). l.run) R in
      record {
        no-class = ap (λ (l : Links). l.class) L;
        no_run = ap (λ (l : Links). l.run) L;
        no-map = map_are p idle e;
        lies = (r.start, omega arith, kind-is R, omega arith, omega arith);
      }

  shows-inside-next : (p : ℕ) → p < n → kind v p ≡ 0 → next v p ≡ no_page
  shows-inside-next p h k = let (e, z) = inner-is p h k in ap (λ (l : Links). l.next.0) (inner-links p e z)

  shows-inside-prev : (p : ℕ) → p < n → kind v p ≡ 0 → p + 1 < n → kind v (p + 1) ≡ 0 → prev v p ≡ no_page
  unfolding back_link
  shows-inside-prev p h k w y = let (e, z) = inner-is p h k in inner-prev p e z ∙ last (eq? (ends_at (p + 1) m.runs) 0)
    where
      last : (ends_at (p + 1) m.runs ≡ 0) ⊎ (ends_at (p + 1) m.runs ≢ 0) → back_link m.runs p ≡ no_page
      last (inl x) = pick_yes _ _ _ (eq-eqb _ 0 x)
      last (inr x) =
          let (r, rm, q, l) = ended G (p + 1) x in
          absurd (clash (ap is_idle (inner-is (p + 1) w y).0) ((G.sound r rm).high_end (p + 1) (sym q)))

  -- the run that page p begins
  begun : (p : ℕ) → p < n → kind v p ≡ 1 → (r : Run) × Mem r m.runs × (r.start ≡ p) × (run v p ≡ r.len)
  begun p h k =
      let (e, z) = head-is p h k in
      let (r, rm, q, w) = started G p z in
      (r, rm, q, ap (λ (l : Links). l.run) (head-links p e z) ∙ sym w)

  shows-first_free : (p : ℕ) → p < n → kind v p ≡ 1 → First v n 0 p
  shows-first_free p h k =
      let (e, z) = head-is p h k in
      let (r, rm, q, u) = begun p h k in
      let S = G.sound r rm in
      record {
        no-class = ap (λ (l : Links). l.class) (head-links p e z);
        no-map = map_are p idle e;
        fits = record {
          some-page = omega (arith, S.some-page);
          within = omega (arith, run-within r rm);
          each = λ j a b. kind-is (inner-links j (run-idle r rm j (omega arith) (omega arith)) (inner_start G r rm j (omega arith) (omega arith)));
        };
      }

  shows-apart : (p : ℕ) → p < n → kind v p ≡ 1 → p + run v p < n → 1 < kind v (p + run v p)
  shows-apart p h k l =
      let (r, rm, q, u) = begun p h k in
      apart (p + run v p) l ((G.sound r rm).high_end (p + run v p) (omega arith))
    where
      apart : (j : ℕ) → j < n → is_idle (m.page j) ≡ false → 1 < kind v j
      apart j l f = go (lt? 1 (kind v j))
        where
          go : (1 < kind v j) ⊎ (kind v j ≤ 1) → 1 < kind v j
          go (inl x) = x
          go (inr x) = absurd (clash (ap is_idle (idle-is j l x)) f)

  shows-back : (p : ℕ) → p < n → kind v p ≡ 1 → 1 < run v p → prev v (p + run v p - 1) ≡ p
  unfolding back_link
  shows-back p h k l =
      let (r, rm, q, u) = begun p h k in
      let j : ℕ = p + run v p - 1 in
      let y : j + 1 ≡ r.start + r.len = omega arith in
      let x : ends_at (j + 1) m.runs ≡ r.len = ap (λ (t : ℕ). ends_at t m.runs) y ∙ ends_at_lem G r rm in
      inner-prev j (run-idle r rm j (omega arith) (omega arith)) (inner_start G r rm j (omega arith) (omega arith))
      ∙ pick_no _ _ _ (ne_eqb (ends_at (j + 1) m.runs) 0 (omega arith)) ∙ omega arith

  shows-class_page : (p : ℕ) → p < n → kind v p ≡ 2 → ClassPage v p
  shows-class_page p h k =
      let e = slab-is p h k in
      let ok = slab_ok W.table e in
      let M = map_are p (slab (class v p) (v.mark p)) e in
      record {
        in_range = ok.in_range;
        no_run = ap (λ (l : Links). l.run) (links_are p (slab (class v p) (v.mark p)) e);
        own-set = ok.own-set;
        map-small = λ l. M ∙ pick_yes _ _ _ (lt-ltb (class v p) 3 l);
        map-large = λ l.
            ap (λ (x : ℕ). x % 2 ^ (64 - chunks (class v p))) (M ∙ pick_no _ _ _ (le-ltb (class v p) 3 l))
            ∙ bits_low (v.mark p) 64 (chunks (class v p)) (bitmap_in_record (class v p) ok.in_range (own-none (class v p) l)) ok.past_clear;
      }

  shows-first_taken : (p : ℕ) → p < n → kind v p ≡ 3 → First v n 4 p
  shows-first_taken p h k =
      let e = taken_is p h k in
      let L = links_are p (taken (run v p)) e in
      record {
        no-class = ap (λ (l : Links). l.class) L;
        no-map = map_are p (taken (run v p)) e;
        fits = record {
          some-page = taken_ok W.table e;
          within = taken-within p (run v p) e;
          each = λ j a b. kind-is (links_are j inside (W.table.inner p (run v p) j e a b));
        };
      }
    where
      taken-within : (p x : ℕ) → m.page p ≡ taken x → p + x ≤ n
      taken-within p x e = go (lt? 1 x)
        where
          go : (1 < x) ⊎ (x ≤ 1) → p + x ≤ n
          go (inl l) =
              let f : m.page (p + x - 1) ≡ inside = W.table.inner p x (p + x - 1) e (omega arith) (omega arith) in
              omega (arith, in_table W.table (p + x - 1) (λ z. never (cc)))
          go (inr l) = omega (arith, in_table W.table p (λ z. never (cc)))

  shows-inside_taken : (p : ℕ) → p < n → kind v p ≡ 4 → Inside v n 3 p
  unfolding LiesIn
  shows-inside_taken p h k =
      let e = inside_is p h k in
      let L = links_are p inside e in
      let (q, x, f, a, b) = W.table.owner p e in
      let Q = links_are q (taken x) f in
      let l : run v q ≡ x = ap (λ (l : Links). l.run) Q in
      record {
        no-class = ap (λ (l : Links). l.class) L;
        no_run = ap (λ (l : Links). l.run) L;
        no-map = map_are p inside e;
        lies = (q, omega arith, kind-is Q, a, omega arith);
      }

  shows-taken : (p : ℕ) → p < n → 2 < kind v p → (next v p ≡ no_page) × (prev v p ≡ no_page)
  shows-taken p h k = go (m.page p) refl
    where
      none : {x : ℕ} {a b : ℕ} → v.image.links p ≡ links x a b no_page no_page → (next v p ≡ no_page) × (prev v p ≡ no_page)
      none e = (ap (λ (l : Links). l.next.0) e, ap (λ (l : Links). l.prev.0) e)

      go : (x : Page) → m.page p ≡ x → (next v p ≡ no_page) × (prev v p ≡ no_page)
      go idle e = absurd (omega (arith, idle-low p e))
      go (slab c j) e = absurd (omega (arith, kind-is (links_are p (slab c j) e)))
      go (taken x) e = none (links_are p (taken x) e)
      go inside e = none (links_are p inside e)
      go edge e = absurd (omega (arith, W.table.ends p e))

  shows-shape : Shape v n
  shows-shape = record {
    kinds = λ p h. kinds p h (m.page p) refl;
    kind0 = shows-inside_free;
    kind1 = shows-first_free;
    apart = shows-apart;
    kind2 = shows-class_page;
    kind3 = shows-first_taken;
    kind4 = shows-inside_taken;
  }
    where
      kinds : (p : ℕ) → p < n → (x : Page) → m.page p ≡ x → kind v p ≤ 4
      kinds p h idle e = omega (arith, idle-low p e)
      kinds p h (slab c k) e = omega (arith, kind-is (links_are p (slab c k) e))
      kinds p h (taken x) e = omega (arith, kind-is (links_are p (taken x) e))
      kinds p h inside e = omega (arith, kind-is (links_are p inside e))
      kinds p h edge e = absurd (omega (arith, W.table.ends p e))

  pub shows-rule2 : Rule2 v n
  shows-rule2 = record {
    shape = shows-shape;
    links = record {
      spare = λ p h. unfold state_fields in refl;
      inside-next = shows-inside-next;
      inside-prev = shows-inside-prev;
      back = shows-back;
      taken = shows-taken;
    };
  }
