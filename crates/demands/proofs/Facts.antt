-- What reading the bytes of a sound pool gives, in the words of its state.
use mathlib.Core.Path.{◌≡◌, refl, sym, ap, ◌∙◌, subst}
use mathlib.Core.Logic.{◌⊎◌, inl, inr, ◌≢◌}
use mathlib.Core.Bool.{Bool, true, false}
use mathlib.Core.Option.{some}
use mathlib.Core.List.{List, ◌∷◌}
use Prim.Native.Nat.{ℕ, ◌+◌, ◌-◌, ◌*◌, ◌/◌, ◌≤◌, ◌<◌}
use native.Mathlib.Omega.{arith}
use lib.ListN.{length}
use borrow.Author.Tests.{lt-ltb, ne_eqb}
use Rattle.base.specs.Tests.{pick}
use Rattle.base.specs.Links.{head_or}
use Rattle.base.proofs.Cases.{clash, lt?, never}
use Rattle.words.specs.Word.{Bytes}
use Rattle.records.specs.Layout.{no_page}
use Rattle.records.specs.declared.Links.{Links}
use Rattle.records.specs.Page.{links_at}
use Rattle.maps.specs.Bitmap.{mark}
use Rattle.model.specs.Classes.{chunks}
use Rattle.model.specs.State.{Page, slab, edge, Run, State, is_idle, is_open, marks_of}
use Rattle.model.specs.WellFormed.{WellFormed}
use Rattle.model.specs.Runs.{fit}
use Rattle.model.proofs.Runs.{fit_found}
use Rattle.model.proofs.Lists.{open_is}
use Rattle.image.proofs.Paint.{links-shown}
use Rattle.lists.specs.Mirror.{first_of}
use Rattle.lists.specs.Nodes.{first_in}
use Rattle.lists.proofs.Paint.{first-shown}
use Rattle.rules.specs.Drawn.{state_image, state_fields, page_links}
use Rattle.rules.specs.Bytes.{pages_in, map_base, mark_at, fields_of, image_of, broken_rule, read}
use Rattle.rules.proofs.Fits.{state-fits}
use Rattle.classes.specs.Mirror.{Whole}
use Rattle.drawing.specs.Draw.{mapped, draw}
use Rattle.drawing.specs.Claim.{Fitting}
use Rattle.drawing.proofs.Mapped.{length-mapped}
use Rattle.drawing.proofs.Drawn.{drawn_shows}
use Rattle.drawing.proofs.Laws.{claims as laws-of}
use Rattle.run_extents.specs.Mirror.{fit_in}
use Rattle.run_laws.specs.OnImage.{start_or}
use Rattle.run_laws.proofs.Drawn.{fit_drawn}

module _ (w : ℕ) (wide : 2 ≤ w) (narrow : w ≤ 255) (s : List ℕ) (B : Bytes s) (sound : broken_rule w s ≡ 0) where
  abbrev m : State
  m = read w s

  pub fitting : Fitting w s m
  fitting = (laws-of w wide narrow s B).sound-fits sound

  pub same : draw w s m ≡ s
  same = (laws-of w wide narrow s B).sound_drawn sound

  W : WellFormed m
  W = fitting.well

  small : m.size ≤ 4096
  small = omega (arith, fitting.few)

  pub few : pages_in w s ≤ no_page
  few = omega (arith, fitting.few, fitting.size)

  room : 1 + 9 * w + 2 * m.size ≤ length (mapped w m s) / 8
  room = rw (length-mapped w m s) (omega (arith, W.some-page, fitting.size))

  -- every word of the records and pages is there
  pub whole : Whole w s (pages_in w s)
  whole = (wide, omega (arith, W.some-page, fitting.size))

  -- ---- the records

  pub first-page : (c : ℕ) → c ≤ 8 → first_of w s (1 + c) ≡ head_or no_page (m.lists c)
  unfolding draw state_image first_in pick
  first-page c h =
      let x : first_of w (draw w s m) (1 + c) ≡ first_in (state_image m) (1 + c) =
      first-shown w m.size wide narrow (omega (arith, fitting.few)) (mapped w m s) room (state-fits W small) (1 + c) (omega arith) in
      let k : 1 + c - 1 ≡ c = omega arith in
      sym (ap (λ (t : List ℕ). first_of w t (1 + c)) same) ∙ x ∙ rw (ne_eqb (1 + c) 0 (omega arith), k)

  pub links_are : (p : ℕ) → p < pages_in w s → links_at w s p ≡ page_links m.runs m.lists p (m.page p)
  unfolding draw state_image
  links_are p h =
      let l : p < m.size = omega (arith, fitting.size) in
      let x : links_at w (draw w s m) p ≡ (state_image m).links p =
      links-shown w m.size wide (state_image m) (mapped w m s) room p l ((state-fits W small).links p l) in
      sym (ap (λ (t : List ℕ). links_at w t p) same) ∙ x

  pub fit_is : (k : ℕ) → fit_in w s (pages_in w s) k ≡ start_or (fit k m.runs)
  fit_is k =
      sym (ap (λ (t : List ℕ). fit_in w t (pages_in w s) k) same)
      ∙ ap (λ (n : ℕ). fit_in w (draw w s m) n k) (sym fitting.size) ∙ fit_drawn w wide narrow W small s fitting.size k

  -- ---- pages

  pub past : (p : ℕ) → pages_in w s ≤ p → m.page p ≡ edge
  past p h = W.table.past p (omega (arith, fitting.size))

  pub ends : (p : ℕ) → p < pages_in w s → m.page p ≢ edge
  ends p h e = omega (arith, W.table.ends p e, fitting.size)

  pub listed-page : (c p : ℕ) (rest : List ℕ) → m.lists c ≡ p ∷ rest → p < pages_in w s
  unfolding is_open
  listed-page c p rest e = side (lt? p (pages_in w s))
    where
      side : (p < pages_in w s) ⊎ (pages_in w s ≤ p) → p < pages_in w s
      side (inl h) = h
      side (inr h) = absurd (clash (W.class-lists.holds c p (rw e (inl refl))) (rw (past p h)))

  pub run_found : (k : ℕ) (r : Run) → fit k m.runs ≡ some r → (r.start ≢ no_page) × (k < 65536)
  run_found k r e =
      let (x, l) = fit_found k m.runs r e in
      let R = W.free_runs.sound r x in
      let inner : r.start + r.len ≤ m.size = run_inside r.start r.len R.some-page (λ j a b. R.all_free j a b) in
      (λ d. omega (arith, R.some-page, fitting.few), omega (arith, fitting.few))
    where
      run_inside : (a n : ℕ) → 1 ≤ n → ((j : ℕ) → a ≤ j → j < a + n → is_idle (m.page j) ≡ true) → a + n ≤ m.size
      run_inside a n h free = side (lt? (a + n - 1) m.size)
        where
          side : (a + n - 1 < m.size) ⊎ (m.size ≤ a + n - 1) → a + n ≤ m.size
          side (inl l) = omega arith
          side (inr l) = absurd (clash (free (a + n - 1) (omega arith) (omega arith)) (ap is_idle (W.table.past (a + n - 1) l)))

  -- ---- marks

  pub marks_are : (p c : ℕ) (b : ℕ → Bool) → m.page p ≡ slab c b → (i : ℕ) → i < chunks c → mark s (map_base w (pages_in w s) p c) i ≡ b i
  unfolding fields_of image_of state_fields mark_at pick
  marks_are p c b e i h =
      let l : p < m.size = side (lt? p m.size) in
      let lk : links_at w s p ≡ page_links m.runs m.lists p (slab c b) = links_are p (omega (arith, fitting.size)) ∙ ap (page_links m.runs m.lists p) e in
      let k : ((fields_of w s).image.links p).kind ≡ 2 = ap (λ (x : Links). x.kind) lk in
      let A = drawn_shows w wide s m fitting.size narrow W small B in
      let M : mark_at w s p (links_at w s p).class ≡ (λ j. marks_of (m.page p) j) =
      subst (λ (t : List ℕ). ((fields_of w t).image.links p).kind ≡ 2 → mark_at w t p (links_at w t p).class ≡ (λ j. marks_of (m.page p) j)) same (λ z. A.marks p l z) k in
      let cl : (links_at w s p).class ≡ c = ap (λ (x : Links). x.class) lk in
      sym (ap (λ (t : Bool). pick t (mark s (map_base w (pages_in w s) p c) i) false) (lt-ltb i (chunks c) h))
      ∙ sym (ap (λ (d : ℕ). mark_at w s p d i) cl) ∙ ap (λ (f : ℕ → Bool). f i) M ∙ ap (λ (x : Page). marks_of x i) e
    where
      side : (p < m.size) ⊎ (m.size ≤ p) → p < m.size
      side (inl l) = l
      side (inr l) = absurd (never (let z = sym e ∙ W.table.past p l in cc))

  pub listed-slab : (c p : ℕ) (rest : List ℕ) → m.lists c ≡ p ∷ rest → m.page p ≡ slab c (marks_of (m.page p))
  listed-slab c p rest e =
      let (b, x, o) = open_is c (m.page p) (W.class-lists.holds c p (rw e (inl refl))) in
      x ∙ ap (slab c) (sym (ap marks_of x))
