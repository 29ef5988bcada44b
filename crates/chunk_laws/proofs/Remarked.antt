-- The marks of a class page change, and its class's list and tally with them: what of the records stays, and what the counts are.
use mathlib.Core.Path.{◌≡◌, refl, sym, ap, ◌∙◌, subst, fun_ext}
use mathlib.Core.Logic.{◌⊎◌, inl, inr, ⊎_elim, ◌≢◌}
use mathlib.Core.Bool.{Bool, true, false, not}
use mathlib.Core.List.{List, ◌∷◌}
use Prim.Native.Nat.{ℕ, suc, ◌+◌, ◌*◌, ◌/◌, ◌≤◌, ◌<◌}
use native.Mathlib.Omega.{arith}
use lib.ListN.{length}
use borrow.Author.Tests.{eq-eqb, ne_eqb, le-ltb, lt-ltb}
use Rattle.base.specs.Tests.{pick}
use Rattle.base.specs.Functions.{upd}
use Rattle.base.specs.Lists.{Mem, keep}
use Rattle.base.specs.Links.{others}
use Rattle.base.proofs.Cases.{clash, eq?, lt?, bool?, Out, never}
use Rattle.base.proofs.Functions.{upd_same, upd_other}
use Rattle.base.proofs.Lists.{keep-mem}
use Rattle.base.proofs.Neighbours.{next_on, prev_on}
use Rattle.words.specs.Word.{Bytes}
use Rattle.records.specs.Layout.{no_page}
use Rattle.records.specs.declared.Links.{Links}
use Rattle.records.specs.declared.ClassRecord.{ClassRecord}
use Rattle.records.specs.Class.{class_at, with_class}
use Rattle.records.specs.Page.{links_at, with_links}
use Rattle.records.specs.Fits.{ClassFits}
use Rattle.records.specs.Mirror.{first_to}
use Rattle.model.specs.Classes.{chunks, own, lowest, has_clear, has_taken}
use Rattle.model.specs.State.{Page, slab, Run, Tally, State}
use Rattle.model.specs.View.{used_on, used_of, shown}
use Rattle.model.specs.WellFormed.{ClassOk, WellFormed}
use Rattle.model.proofs.Classes.{large-chunks, lowest_clear_lem}
use Rattle.model.proofs.Table.{in_table, slab_ok}
use Rattle.model.proofs.Lists.{open_slab, open_is}
use Rattle.maps.specs.Bitmap.{mark, with_mark}
use Rattle.maps.specs.Mirror.{lowest_clear}
use Rattle.image.specs.Image.{Image, paint, set_links}
use Rattle.image.specs.Update.{set_class, set_map}
use Rattle.image.proofs.Fits.{Fits, fits-class, fits-links}
use Rattle.image.proofs.Paint.{links-paint, links-shown, class-shown, length-paint}
use Rattle.lists.specs.Mirror.{between, with_prev}
use Rattle.lists.specs.Nodes.{prev_of, put_prev, unlink}
use Rattle.lists.proofs.Paint.{Maybe, small, fits-prev, fits_next, prev-paint, unlink-paint}
use Rattle.rules.specs.Drawn.{page_links, on_list, map_of, state_image}
use Rattle.rules.specs.Bytes.{map_base}
use Rattle.rules.proofs.Fits.{state-fits}
use Rattle.shows.proofs.Shows.{state-shows, not_start, not_listed, listed-low}
use Rattle.shows.specs.Shows.{Unlisted, ShowsOn, ShowsLinks}
use Rattle.run_laws.specs.Scene.{Scene}
use Rattle.run_laws.proofs.Shown.{state_scene}
use Rattle.map_count.specs.Mirror.{map_bits}
use Rattle.classes.specs.Mirror.{map_word}
use Rattle.classes.proofs.Numbers.{word_paged, word_recorded, base_paged, base_recorded}
use Rattle.map_occupancy.specs.Mirror.{last_free, last_taken}
use Rattle.map_occupancy.proofs.Words.{bits_most}
use Rattle.map_occupancy.proofs.Told.{last_free-is, last_taken-is}
use Rattle.chunks.specs.Mirror.{list_of, class_links, delisted, off_list}
use Rattle.drawing.specs.Draw.{in_map, mapped_byte, mapped, draw}
use Rattle.drawing.proofs.Mapped.{length-mapped, mapped-keeps}
use Rattle.drawing.proofs.Records.{paint-keeps}
use Rattle.drawing.proofs.Drawn.{map-small}
use Rattle.base.specs.Search.{least}
use Rattle.base.proofs.Search.{least_spec, least-is}
use Rattle.chunk_laws.proofs.Counts.{used-frame, total-frame, free-frame, used-none}
use Rattle.chunk_laws.specs.Midway.{midway}
use Rattle.chunk_laws.proofs.Maps.{marks-shown, mark_drawn}
use Rattle.chunk_laws.proofs.Next.{map_frame, class_drawn, first_drawn, midway-fits, shown-midway, class_same, counts_drawn}
use Rattle.chunk_laws.proofs.Lists.{off_in, off_out, off_on, left-shows}

-- ---- marks are no part of what a page's links show

pub same_links : (rs : List Run) (ls : ℕ → List ℕ) (f : ℕ → Page) (p c : ℕ) (k k' : ℕ → Bool) → f p ≡ slab c k → (q : ℕ)
    → page_links rs ls q (upd f p (slab c k') q) ≡ page_links rs ls q (f q)
same_links rs ls f p c k k' is q = go (eq? q p)
  where
    go : (q ≡ p) ⊎ (q ≢ p) → page_links rs ls q (upd f p (slab c k') q) ≡ page_links rs ls q (f q)
    go (inl e) = rw (e, upd_same f p (slab c k'), is)
    go (inr e) = rw (upd_other f p (slab c k') q e)

pub shows_alike : {on : ℕ → Type 0} {page page' : ℕ → Page} {rs : List Run} {ls : ℕ → List ℕ} {J : Image}
    → ((q : ℕ) → page_links rs ls q (page' q) ≡ page_links rs ls q (page q)) → ShowsOn on page rs ls J → ShowsOn on page' rs ls J
shows_alike {on} {page} {page'} {rs} {ls} {J} e S = record {
  free_list = S.free_list;
  class_list = S.class_list;
  shape = λ q o. S.shape q o ∙ ap (λ (l : Links). between l (prev_of J q) (J.links q).next.0) (sym (e q));
  unlisted = λ q o u. S.unlisted q o u ∙ sym (e q);
}

-- ---- the lists of a well-formed state

module _ (m : State) (W : WellFormed m) (few : m.size ≤ 4096) where
  scene : Scene m.size m.page m.runs m.lists
  scene = state_scene W (omega arith)

  pub lists-apart : (c d q : ℕ) → d ≤ 8 → d ≢ c → Mem q (m.lists d) → ¬ Mem q (m.lists c)
  lists-apart c d q l e a b =
      let (k, x, _) = open_is d (m.page q) (W.class-lists.holds d q a) in
      let (j, y, _) = open_is c (m.page q) (W.class-lists.holds c q b) in
      e (cc)

-- ---- a class page of a well-formed state, over a slice with room for it

pub record Here (w : ℕ) (s : List ℕ) (m : State) (p c : ℕ) (k : ℕ → Bool) : Type 0 where
  pub wide : 2 ≤ w
  pub narrow : w ≤ 255
  pub slice : Bytes s
  pub well : WellFormed m
  pub few : m.size ≤ 4096
  pub room : 8 + 72 * w + 4112 * m.size ≤ length s
  pub is : m.page p ≡ slab c k

module _ {w : ℕ} {s : List ℕ} {m : State} {p c : ℕ} {k : ℕ → Bool} (H : Here w s m p c k) where
  open H use {wide, narrow, slice as B, well as W, few, room, is}

  abbrev P : ℕ
  P = m.size

  abbrev S : List ℕ
  S = mapped w m s

  pub page-below : p < P
  page-below = in_table W.table p (λ z. never (cc))

  pub page_ok : ClassOk c k
  page_ok = slab_ok W.table is

  pub records_room : 1 + 9 * w + 2 * P ≤ length S / 8
  records_room = rw (length-mapped w m s) (omega arith)

  -- the marks that the code reads
  shown-mark : (i : ℕ) → i < map_bits c → mark (paint w P (state_image m) S) (map_base w P p c) i ≡ k i
  shown-mark = marks-shown w s m W room p page-below wide narrow few B (state_image m) (state-fits W few) maps c k is (unfold state_image in (rw is))
    where
      maps : (q : ℕ) → q < P → (state_image m).map q < 18446744073709551616
      maps q l = unfold state_image in map-small (m.page q)

  -- where there is a free chunk, the bits of a map past its chunks do not matter
  pub lowest-found : has_clear c k ≡ true → lowest_clear (draw w s m) (map_base w P p c) (map_bits c) ≡ lowest c k
  unfolding lowest_clear lowest draw
  lowest-found some =
      let L = least_spec (λ i. not (k i)) (chunks c) in
      let l : least (λ i. not (k i)) (chunks c) < chunks c = (lowest_clear_lem c k some).0 in
      least-is _ (map_bits c) (least (λ i. not (k i)) (chunks c)) (record {
        at_most = omega (arith, within _ l (lt? c 3));
        before = λ j h. ap not (shown-mark j (within j (omega arith) (lt? c 3))) ∙ L.before j h;
        passes = λ _. ap not (shown-mark _ (within _ l (lt? c 3))) ∙ L.passes l;
      })
    where
      within : (i : ℕ) → i < chunks c → (c < 3) ⊎ (3 ≤ c) → i < map_bits c
      within i l (inl h) = unfold map_bits pick in (rw (lt-ltb c 3 h) l)
      within i l (inr h) = unfold map_bits pick in (rw (le-ltb c 3 h) (omega (arith, large-chunks c h)))

  -- how full the page is
  pub base : 8 * map_word w P p c ≡ map_base w P p c
  base = ⊎_elim (λ (h : c < 3). rw (word_paged w P p c h, base_paged w P p c h) (omega arith)) (λ (h : 3 ≤ c). rw (word_recorded w P p c h, base_recorded w P p c h)) (lt? c 3)

  in_pool : map_word w P p c + map_bits c / 64 ≤ length (draw w s m) / 8
  unfolding draw
  in_pool = rw (length-paint w P wide (state_image m) S, length-mapped w m s) (go (lt? c 3))
    where
      go : (c < 3) ⊎ (3 ≤ c) → map_word w P p c + map_bits c / 64 ≤ length s / 8
      go (inl h) = rw (word_paged w P p c h) (omega (arith, page-below, bits_most c))
      go (inr h) = rw (word_recorded w P p c h) (omega (arith, page-below, bits_most c))

  bytes : Bytes (draw w s m)
  unfolding draw state_image
  bytes = paint-keeps w P (state_image m) S narrow (omega arith) (state-fits W few) (λ q h. map-small (m.page q)) (mapped-keeps w m s B)

  mark-told : (i : ℕ) → i < map_bits c → mark (draw w s m) (8 * map_word w P p c) i ≡ k i
  unfolding draw
  mark-told i l = ap (λ (x : ℕ). mark (paint w P (state_image m) S) x i) base ∙ shown-mark i l

  pub last_free-told : (i : ℕ) → i < chunks c → k i ≡ false → last_free (draw w s m) (map_word w P p c) c i ≡ not (has_clear c (upd k i true))
  last_free-told i = last_free-is (draw w s m) bytes (map_word w P p c) c in_pool k mark-told page_ok.past_clear i

  pub last_taken-told : (i : ℕ) → own c ≤ i → i < chunks c → k i ≡ true → last_taken (draw w s m) (map_word w P p c) c i ≡ not (has_taken c (upd k i false))
  last_taken-told i o l t = last_taken-is (draw w s m) bytes (map_word w P p c) c in_pool k mark-told page_ok.past_clear i l o t page_ok.own-set

  -- ---- the page is on its list where it has a clear mark

  pub page_links_lem : (state_image m).links p ≡ on_list 2 c 0 p (m.lists c)
  unfolding state_image
  page_links_lem = rw is

  pub links-told : links_at w (draw w s m) p ≡ (state_image m).links p
  unfolding draw
  links-told = links-shown w P wide (state_image m) S records_room p page-below ((state-fits W few).links p page-below)

  pub class-told : class_at w (draw w s m) c ≡ (state_image m).class c
  unfolding draw
  class-told = class-shown w P wide (state_image m) S records_room c (omega (arith, page_ok.in_range)) ((state-fits W few).class c (omega (arith, page_ok.in_range)))

  pub off-told : off_list w (draw w s m) c p ≡ not (has_clear c k)
  unfolding off_list state_image
  off-told = rw (links-told, class-told, is) (⊎_elim on off (bool? (has_clear c k)))
    where
      on : has_clear c k ≡ true → off_in p (m.lists c) ≡ not (has_clear c k)
      on h = rw h (off_on p (m.lists c) (listed-low m W (omega arith) c) (W.class-lists.all c p (rw is (open_slab c k ∙ h))))

      off : has_clear c k ≡ false → off_in p (m.lists c) ≡ not (has_clear c k)
      off h = rw h (off_out p (m.lists c) (omega (arith, page-below)) (not_listed W.table W.free_runs W.class-lists c p (rw is (open_slab c k ∙ h))))

  -- ---- the page leaves its list

  module _ (listed : Mem p (m.lists c)) where
    near : (q : ℕ) → Mem q (m.lists c) → Maybe P q
    near q h = inr ((scene m W few).class_in c q page_ok.in_range h).0

    before-page : (q : ℕ) → Mem q (no_page ∷ m.lists c) → Maybe P q
    before-page q (inl e) = inl e
    before-page q (inr h) = near q h

    after-page : (q : ℕ) → (q ≡ no_page) ⊎ Mem q (m.lists c) → Maybe P q
    after-page q (inl e) = inl e
    after-page q (inr h) = near q h

    prev_near : Maybe P ((state_image m).links p).prev.0
    prev_near = rw page_links_lem (before-page _ (prev_on no_page no_page p (m.lists c) listed))

    pub next_near : Maybe P ((state_image m).links p).next.0
    next_near = rw page_links_lem (after-page _ (next_on no_page p (m.lists c)))

    pub delisted_drawn : delisted w (draw w s m) c p ≡ paint w P (unlink (state_image m) (suc c) ((state_image m).links p)) S
    unfolding delisted draw
    delisted_drawn =
        let z : list_of c ≡ suc c = omega (arith, page_ok.in_range) in
        rw (z, links-told)
        (unlink-paint w P wide narrow (omega arith) S records_room (state-fits W few) (suc c) ((state_image m).links p) (omega (arith, page_ok.in_range)) prev_near next_near)

    pub delisted-fits : Fits P (unlink (state_image m) (suc c) ((state_image m).links p))
    unfolding unlink
    delisted-fits =
        let top : P ≤ no_page = omega arith in
        fits-prev w P wide narrow top (fits_next w P wide narrow top (state-fits W few) (suc c) _ _ (small P top next_near)) _ _ (small P top prev_near)

    abbrev pub less : ℕ → List ℕ
    less = upd m.lists c (keep (others p) (m.lists c))

    in_less : (d q : ℕ) → Mem q (less d) → Mem q (m.lists d) × ((d ≡ c) → q ≢ p)
    in_less d q h = go (eq? d c)
      where
        go : (d ≡ c) ⊎ (d ≢ c) → Mem q (m.lists d) × ((d ≡ c) → q ≢ p)
        go (inl e) =
            let (a, b) = keep-mem (others p) q (m.lists c) (rw (e, upd_same m.lists c (keep (others p) (m.lists c))) at h) in
            (rw e a, λ _ z. clash b (unfold others in (rw (eq-eqb q p z))))
        go (inr e) = (rw (upd_other m.lists c (keep (others p) (m.lists c)) d e) at h, λ z. absurd (e z))

    pub less_scene : Scene P m.page m.runs less
    less_scene = record {
      few = (scene m W few).few;
      runs = (scene m W few).runs;
      idle_in = (scene m W few).idle_in;
      class_in = λ d q l h. (scene m W few).class_in d q l (in_less d q h).0;
    }

    pub less_unlisted : Unlisted m.runs less p
    less_unlisted = record {
      no_run = not_start W.table W.free_runs W.class-lists p (rw is);
      no-class = λ d l h. go d l (in_less d p h) (eq? d c);
    }
      where
        go : (d : ℕ) → d ≤ 8 → Mem p (m.lists d) × ((d ≡ c) → p ≢ p) → (d ≡ c) ⊎ (d ≢ c) → ⊥
        go d l (a, b) (inl e) = b e refl
        go d l (a, b) (inr e) = lists-apart m W few c d p l e a listed

    pub delisted-shows : ShowsOn (λ q. (q < P) × Out p 1 q) m.page m.runs less
        (unlink (state_image m) (suc c) ((state_image m).links p))
    delisted-shows =
        left-shows (scene m W few) c page_ok.in_range (W.class-lists.once c) (lists-apart m W few c) (state-shows m W (omega arith)) p listed (λ q h o. h)

  -- ---- mark i is written: k' are the new marks, l the new list of class c

  module _ (i : ℕ) (v : Bool) (in-range : i < chunks c) (l : List ℕ) (ta : ℕ → Tally) where
    abbrev k' : ℕ → Bool
    k' = upd k i v

    abbrev pub n : State
    n = record { size = m.size; page = upd m.page p (slab c k'); runs = m.runs; lists = upd m.lists c l; tally = ta }

    here : n.page p ≡ slab c k'
    here = upd_same m.page p (slab c k')

    there : (q : ℕ) → q ≢ p → n.page q ≡ m.page q
    there q d = upd_other m.page p (slab c k') q d

    pub free_same : (state_image m).free_pages ≡ (state_image n).free_pages
    unfolding state_image
    free_same = let z = rw (is, here) at (free-frame m n refl p page-below there) in omega arith

    pub total_same : (d : ℕ) → (shown n).total d ≡ (shown m).total d
    total_same d = let z = rw (is, here) at (total-frame m n refl p page-below there d) in omega arith

    pub used_other : (d : ℕ) → d ≢ c → used_of n d ≡ used_of m d
    used_other d e =
        let z = rw (is, here) at (used-frame m n refl p page-below there d) in
        omega (arith, used-none d (slab c k) (ne_eqb c d (λ x. e (sym x))), used-none d (slab c k') (ne_eqb c d (λ x. e (sym x))))

    pub used-own : used_of n c + used_on c (slab c k) ≡ used_of m c + used_on c (slab c k')
    used-own = rw (is, here) at (used-frame m n refl p page-below there c)

    -- an image that shows the new list, and the old counts and maps
    module _ (Wn : WellFormed n) where
      pub lists_drawn : (ls : ℕ → List ℕ) (K : Image) → ((d : ℕ) → ls d ≡ n.lists d) → ShowsLinks P m.page m.runs ls K
          → K.free_pages ≡ (state_image m).free_pages → ((d : ℕ) → K.class d ≡ first_to ((state_image m).class d) (K.class d).first.0) → K.map ≡ (state_image m).map
          → paint w P K S ≡ paint w P (midway m n) S
      lists_drawn ls K e L free class map =
          shown-midway m n W Wn refl few K
          (shows_alike (same_links m.runs n.lists m.page p c k k' is) (subst (λ (x : ℕ → List ℕ). ShowsLinks P m.page m.runs x K) (fun_ext e) L))
          (free ∙ free_same) class (λ q. ap (λ (g : ℕ → ℕ). g q) map) w S

      -- the list stays
      pub list_stays : m.lists c ≡ l → draw w s m ≡ paint w P (midway m n) S
      unfolding draw
      list_stays e =
          lists_drawn m.lists (state_image m)
          (λ d. ⊎_elim (λ (z : d ≡ c). ap m.lists z ∙ e ∙ sym (ap n.lists z ∙ upd_same m.lists c l)) (λ (z : d ≢ c). sym (upd_other m.lists c l d z)) (eq? d c))
          (state-shows m W (omega arith)) refl (λ d. refl) refl

    -- the lists are drawn; then the class record and the mark
    module _ (Wn : WellFormed n) (f : ClassRecord → ClassRecord) (own : f ((midway m n).class c) ≡ (state_image n).class c)
        (tally : (d : ℕ) → d ≢ c → ta d ≡ m.tally d) where
      pub remarked_drawn : (t : List ℕ) → t ≡ paint w P (midway m n) S
          → with_mark (with_class w t c (f (class_at w t c))) (map_base w P p c) i v ≡ draw w s n
      unfolding draw mapped mapped_byte in_map
      remarked_drawn t e =
          let F = midway-fits m n W Wn refl few in
          let I : Image = set_class (midway m n) c (f ((midway m n).class c)) in
          let J : Fits P I = fits-class F c _ (λ l. subst ClassFits (sym own) ((state-fits Wn few).class c l)) in
          let z : with_class w t c (f (class_at w t c)) ≡ paint w P I S = rw e (class_drawn w P wide (midway m n) S records_room F c page_ok.in_range f) in
          let y : with_mark (paint w P I S) (map_base w P p c) i v ≡ paint w P (set_map I p (map_of (slab c k'))) (mapped w n s) =
          mark_drawn w s m W room p page-below wide narrow few B I J (λ q h. unfold state_image in map-small (m.page q)) c k is (unfold state_image in (rw is)) i v in-range in
          rw (z, y)
          (counts_drawn m n W Wn refl few c _ _ (λ q h. map_frame m n p (map_of (slab c k')) there (ap map_of here) q) own
          (λ d x. class_same m n W Wn refl few d (used_other d x) (total_same d) (tally d x)) w (mapped w n s))

      -- the same where links are written and the first page x changes with the record: y comes after p, and u before h
      pub relinked_drawn : (y h u x : ℕ) → y < 65536 → Maybe P h → u < 65536 → x < 65536
          → paint w P (set_class (put_prev (set_links (state_image m) p (between (class_links c) no_page y)) h u) c (first_to ((state_image m).class c) x)) S ≡ paint w P (midway m n) S
          → (t : List ℕ) → t ≡ with_prev w (with_links w (draw w s m) p (between (class_links c) no_page y)) h u
          → with_mark (with_class w t c (f (first_to (class_at w t c) x))) (map_base w P p c) i v ≡ draw w s n
      unfolding draw
      relinked_drawn y h u x fy near fu fx e t z =
          let l : Links = between (class_links c) no_page y in
          let F : Fits P (set_links (state_image m) p l) =
          fits-links (state-fits W few) p l (λ _. record { kind = omega arith; class = omega (arith, page_ok.in_range); run = omega arith; next = fy; prev = omega arith }) in
          let G : Fits P (put_prev (set_links (state_image m) p l) h u) = fits-prev w P wide narrow (omega arith) F h u fu in
          rw (
            z,
            links-paint w P wide (state_image m) S p l page-below,
            prev-paint w P wide narrow (omega arith) S records_room F h u near,
            first_drawn w P wide (put_prev (set_links (state_image m) p l) h u) S records_room G c page_ok.in_range f x fx _ (sym e),
          )
          (remarked_drawn _ refl)
