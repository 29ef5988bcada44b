-- From a state to the next: an image that shows the next links, then the counts, is the next state's image.
use mathlib.Core.Path.{◌≡◌, refl, sym, ap, ◌∙◌, subst}
use mathlib.Core.Logic.{◌⊎◌, inl, inr, ◌≢◌}
use mathlib.Core.List.{List}
use Prim.Native.Nat.{ℕ, suc, ◌+◌, ◌-◌, ◌*◌, ◌/◌, ◌≤◌, ◌<◌}
use native.Mathlib.Omega.{arith}
use lib.ListN.{length}
use borrow.Author.Tests.{eq-eqb, ne_eqb}
use Rattle.base.specs.Tests.{pick}
use Rattle.base.specs.Functions.{upd}
use Rattle.base.specs.Links.{head_or}
use Rattle.base.proofs.Cases.{eq?}
use Rattle.base.proofs.Functions.{upd_same, upd_other}
use Rattle.records.specs.Layout.{no_page}
use Rattle.records.specs.declared.ClassRecord.{ClassRecord}
use Rattle.records.specs.Class.{class_at, with_class}
use Rattle.records.specs.Mirror.{first_to}
use Rattle.records.proofs.Laws.{first_fits}
use Rattle.model.specs.State.{State}
use Rattle.model.specs.View.{used_of, shown}
use Rattle.model.specs.WellFormed.{TableOk, WellFormed}
use Rattle.image.specs.Image.{Image, paint}
use Rattle.image.specs.Update.{set_class, set_map}
use Rattle.image.proofs.Fits.{Fits, fits-class}
use Rattle.image.proofs.Paint.{paint_ext, class-paint, class-shown}
use Rattle.lists.specs.Nodes.{head, first_in, Listed}
use Rattle.lists.proofs.Laws.{next-head}
use Rattle.rules.specs.Drawn.{starts, map_of, class_record, state_image}
use Rattle.rules.proofs.Fits.{state-fits}
use Rattle.shows.specs.Shows.{ShowsLinks}
use Rattle.shows.proofs.Shows.{has-links}
use Rattle.chunk_laws.specs.Midway.{midway}

-- ---- a list's first page

first-listed : (J : Image) (list : ℕ) (xs : List ℕ) → Listed J list xs → first_in J list ≡ head_or no_page xs
first-listed J list xs K = sym (next-head J list) ∙ K.nexts (head list) (inl refl) ∙ rw (eq-eqb (head list) (head list) refl)

-- ---- a class record changed

-- a place changed twice
upd_twice : {A : Type 0} (f : ℕ → A) (p : ℕ) (x y : A) (q : ℕ) → upd f p y q ≡ upd (upd f p x) p y q
upd_twice f p x y q = go (eq? q p)
  where
    go : (q ≡ p) ⊎ (q ≢ p) → upd f p y q ≡ upd (upd f p x) p y q
    go (inl e) = rw (e, upd_same f p y, upd_same (upd f p x) p y)
    go (inr e) = rw (upd_other (upd f p x) p y q e) (upd_other f p y q e ∙ sym (upd_other f p x q e))

pub class_drawn : (w P : ℕ) → 2 ≤ w → (I : Image) (S : List ℕ) → 1 + 9 * w + 2 * P ≤ length S / 8 → Fits P I → (c : ℕ) → c ≤ 8 → (f : ClassRecord → ClassRecord)
    → with_class w (paint w P I S) c (f (class_at w (paint w P I S) c)) ≡ paint w P (set_class I c (f (I.class c))) S
class_drawn w P wide I S room F c ok f =
    rw (class-shown w P wide I S room c (omega arith) (F.class c (omega arith))) (class-paint w P wide I S c (f (I.class c)) (omega arith))

-- its first page may change with the rest or before it
pub first_drawn : (w P : ℕ) → 2 ≤ w → (I : Image) (S : List ℕ) → 1 + 9 * w + 2 * P ≤ length S / 8 → Fits P I → (c : ℕ) → c ≤ 8 → (f : ClassRecord → ClassRecord) (x : ℕ)
    → x < 65536 → (t : List ℕ) → t ≡ paint w P (set_class I c (first_to (I.class c) x)) S
    → with_class w (paint w P I S) c (f (first_to (class_at w (paint w P I S) c) x)) ≡ with_class w t c (f (class_at w t c))
first_drawn w P wide I S room F c ok f x small t e =
    let r : ClassRecord = first_to (I.class c) x in
    let G : Fits P (set_class I c r) = fits-class F c r (λ l. first_fits (I.class c) x (F.class c l) small) in
    class_drawn w P wide I S room F c ok (λ y. f (first_to y x))
    ∙ paint_ext w P (set_class I c (f r)) (set_class (set_class I c r) c (f r)) S (record {
      free_pages = refl;
      first_run = refl;
      class = λ d l. upd_twice I.class c r (f r) d;
      map = λ q l. refl;
      links = λ q l. refl;
    })
    ∙ sym (rw e (rw (upd_same I.class c r) at (class_drawn w P wide (set_class I c r) S room G c ok f)))

-- map fields have the width of a word
pub fits-map : {P : ℕ} {I : Image} → Fits P I → (p v : ℕ) → Fits P (set_map I p v)
fits-map F p v = record { free_pages = F.free_pages; first_run = F.first_run; class = F.class; links = F.links }

-- the map fields, where one page changes
pub map_frame : (m n : State) (p v : ℕ) → ((q : ℕ) → q ≢ p → n.page q ≡ m.page q) → map_of (n.page p) ≡ v → (q : ℕ) → upd (state_image m).map p v q ≡ (state_image n).map q
unfolding state_image
map_frame m n p v others new q = go (eq? q p)
  where
    go : (q ≡ p) ⊎ (q ≢ p) → upd (λ j. map_of (m.page j)) p v q ≡ map_of (n.page q)
    go (inl e) = ap (upd (λ j. map_of (m.page j)) p v) e ∙ upd_same (λ j. map_of (m.page j)) p v ∙ sym new ∙ ap (λ (j : ℕ). map_of (n.page j)) (sym e)
    go (inr e) = upd_other (λ j. map_of (m.page j)) p v q e ∙ ap map_of (sym (others q e))

-- an image with other maps
abbrev pub with_maps : Image → (ℕ → ℕ) → Image
with_maps I f = record { free_pages = I.free_pages; first_run = I.first_run; class = I.class; map = f; links = I.links }

module _ (m n : State) (W : WellFormed m) (Wn : WellFormed n) (size : n.size ≡ m.size) (few : m.size ≤ 4096) where
  abbrev P : ℕ
  P = m.size

  before : Fits P (state_image m)
  before = state-fits W few

  after : Fits P (state_image n)
  after = subst (λ (x : ℕ). Fits x (state_image n)) size (state-fits Wn (omega arith))

  pub midway-fits : Fits P (midway m n)
  midway-fits = record {
    free_pages = after.free_pages;
    first_run = after.first_run;
    class = λ d l. first_fits ((state_image m).class d) _ (before.class d l) (after.class d l).first;
    links = after.links;
  }

  -- what shows the next links, and has the old counts and maps
  pub shown-midway : (K : Image) → ShowsLinks P n.page n.runs n.lists K → K.free_pages ≡ (state_image n).free_pages
      → ((d : ℕ) → K.class d ≡ first_to ((state_image m).class d) (K.class d).first.0) → ((q : ℕ) → K.map q ≡ (state_image m).map q)
      → (w : ℕ) (S : List ℕ) → paint w P K S ≡ paint w P (midway m n) S
  shown-midway K L free class map w S = paint_ext w P K (midway m n) S (record {
    free_pages = free;
    first_run = unfold state_image first_in pick in first-listed K 0 (starts n.runs) L.free_list;
    class = λ d l. class d ∙ ap (first_to ((state_image m).class d)) (first d (omega arith));
    map = λ q l. map q;
    links = λ q l. unfold state_image in has-links table Wn.free_runs Wn.class-lists (omega arith) L q l;
  })
    where
      table : TableOk P n.page
      table = subst (λ (x : ℕ). TableOk x n.page) size Wn.table

      first : (d : ℕ) → d ≤ 8 → (K.class d).first.0 ≡ ((state_image n).class d).first.0
      first d l =
          unfold state_image first_in pick in
          let e : suc d - 1 ≡ d = omega arith in
          let z : first_in K (suc d) ≡ (K.class d).first.0 = rw (ne_eqb (suc d) 0 (omega arith), e) in
          sym z ∙ first-listed K (suc d) (n.lists d) (L.class_list d l)

  -- a class whose counts stay
  pub class_same : (d : ℕ) → used_of n d ≡ used_of m d → (shown n).total d ≡ (shown m).total d → n.tally d ≡ m.tally d
      → first_to ((state_image m).class d) ((state_image n).class d).first.0 ≡ (state_image n).class d
  unfolding state_image
  class_same d u t k = λ i. class_record (head_or no_page (n.lists d)) (sym u i) (sym t i) (sym k i)

  -- the counts of class c are changed last
  pub counts_drawn : (c : ℕ) (f : ℕ → ℕ) (r : ClassRecord) → ((q : ℕ) → q < P → f q ≡ (state_image n).map q) → r ≡ (state_image n).class c
      → ((d : ℕ) → d ≢ c → first_to ((state_image m).class d) ((state_image n).class d).first.0 ≡ (state_image n).class d)
      → (w : ℕ) (S : List ℕ) → paint w P (set_class (with_maps (midway m n) f) c r) S ≡ paint w P (state_image n) S
  counts_drawn c f r map own other w S = paint_ext w P _ (state_image n) S (record {
    free_pages = refl;
    first_run = refl;
    class = λ d l. go d (eq? d c);
    map = map;
    links = λ q l. refl;
  })
    where
      go : (d : ℕ) → (d ≡ c) ⊎ (d ≢ c) → upd (midway m n).class c r d ≡ (state_image n).class d
      go d (inl e) = ap (upd (midway m n).class c r) e ∙ upd_same (midway m n).class c r ∙ own ∙ ap (state_image n).class (sym e)
      go d (inr e) = upd_other (midway m n).class c r d e ∙ other d e
