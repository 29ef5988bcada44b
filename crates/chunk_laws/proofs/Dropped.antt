-- The last chunk of a page comes back and the page is released: the bytes become the next state's drawing over the bytes with the mark cleared.
use mathlib.Core.Path.{◌≡◌, refl, sym, ap, ◌∙◌}
use mathlib.Core.Logic.{◌⊎◌, inl, inr, ⊎_elim, ◌≢◌}
use mathlib.Core.Bool.{Bool, true, false, not}
use mathlib.Core.List.{List}
use Prim.Native.Nat.{ℕ, suc, ◌+◌, ◌-◌, ◌*◌, ◌≤◌, ◌<◌}
use native.Mathlib.Omega.{arith}
use lib.ListN.{get_or}
use borrow.Author.Tests.{eq-eqb, ne_eqb}
use Rattle.base.specs.Tests.{pick}
use Rattle.base.specs.Functions.{upd, fill}
use Rattle.base.specs.Lists.{Mem, keep}
use Rattle.base.specs.Links.{others}
use Rattle.base.proofs.Cases.{clash, never, eq?, lt?, bool?, Out}
use Rattle.base.proofs.Count.{count_bound}
use Rattle.base.proofs.Functions.{upd_same, upd_other, fill_in, fill_out}
use Rattle.records.specs.Layout.{pages_from}
use Rattle.records.specs.declared.ClassRecord.{ClassRecord}
use Rattle.records.specs.Mirror.{first_to}
use Rattle.model.specs.Classes.{chunks, own, counted, has_clear, has_taken}
use Rattle.model.specs.State.{Page, idle, slab, State, is_idle}
use Rattle.model.specs.Runs.{join_runs, starts_at, ends_at}
use Rattle.model.specs.View.{used_on, used_of, shown}
use Rattle.model.specs.Calls.{relisted, release, drop_page}
use Rattle.model.specs.WellFormed.{WellFormed}
use Rattle.model.proofs.Classes.{small-chunks, own-few, none-taken}
use Rattle.model.proofs.Table.{in_table}
use Rattle.model.proofs.Lists.{open_slab}
use Rattle.model.proofs.FreeChunk.{drop-well}
use Rattle.maps.specs.Bitmap.{bits_of, with_mark}
use Rattle.maps.proofs.Bits.{bits_ext}
use Rattle.image.specs.Image.{Image, paint}
use Rattle.image.specs.Update.{set_map}
use Rattle.lists.specs.Nodes.{unlink}
use Rattle.lists.proofs.Laws.{Relinked, unlink_relinked}
use Rattle.rules.specs.Drawn.{map_of, class_record, state_image}
use Rattle.rules.specs.Rules.{free_in}
use Rattle.rules.specs.Bytes.{map_base}
use Rattle.rules.proofs.Fits.{state-fits}
use Rattle.shows.specs.Shows.{ShowsOn}
use Rattle.run_laws.specs.Scene.{Scene}
use Rattle.run_laws.specs.OnImage.{released_on}
use Rattle.run_laws.proofs.Join.{released-pages, released-class, released-map, released-shows}
use Rattle.run_laws.proofs.Laws.{released-paint}
use Rattle.run_neighbours.specs.Mirror.{pages_released}
use Rattle.classes.proofs.Numbers.{own-past}
use Rattle.classes.specs.Mirror.{map_word, page_back, count_page_back}
use Rattle.map_occupancy.specs.Mirror.{last_taken}
use Rattle.map_occupancy.proofs.Words.{bit-own}
use Rattle.chunks.specs.Mirror.{delisted, page_dropped, freed_at, chunk_freed}
use Rattle.drawing.specs.Draw.{map_has, map_byte, mapped, draw}
use Rattle.drawing.proofs.Mapped.{length-mapped, mapped-map, mapped-is}
use Rattle.drawing.proofs.Drawn.{map-small}
use Rattle.drawing.proofs.Over.{paint_over, mapped-paint}
use Rattle.chunk_laws.specs.Midway.{midway, with_page}
use Rattle.chunk_laws.proofs.Counts.{used-frame, total-frame, free-frame, used-none, used_bump, used-no, marks-count, marks-all}
use Rattle.chunk_laws.proofs.Maps.{has-map, map_byte_lem, map_paged, map_recorded, mark_drawn}
use Rattle.chunk_laws.proofs.Lists.{one_off}
use Rattle.chunk_laws.proofs.Next.{fits-map, map_frame, class_drawn, midway-fits, shown-midway, class_same, counts_drawn}
use Rattle.chunk_laws.proofs.Remarked.{Here, page_ok, page-below}
use Rattle.chunk_laws.proofs.Remarked as remarked

module _ {w : ℕ} {s : List ℕ} {m : State} {p c : ℕ} {k : ℕ → Bool} (H : Here w s m p c k)
    (i : ℕ) (in_use : own c ≤ i) (in-range : i < chunks c) (set : k i ≡ true) (last : has_taken c (upd k i false) ≡ false) where
  open H use {wide, narrow, slice as B, well as W, few, room, is}

  abbrev P : ℕ
  P = m.size

  abbrev S : List ℕ
  S = mapped w m s

  abbrev k' : ℕ → Bool
  k' = upd k i false

  used_one : used_on c (slab c k) ≡ 1
  used_one =
      let z : used_on c (slab c k) ≡ used_on c (slab c k') + 1 = used_bump c k' k i in_use in-range (upd_same k i false) set (λ j d. sym (upd_other k i false j d)) in
      omega (arith, used-no c k' last)

  last_told : last_taken (draw w s m) (map_word w P p c) c i ≡ true
  last_told = remarked.last_taken-told H i in_use in-range set ∙ ap not last

  -- a page with one chunk taken is not full
  unfilled : has_clear c k ≡ true
  unfilled = ⊎_elim (λ (h : has_clear c k ≡ true). h)
      (λ (h : has_clear c k ≡ false). absurd (omega (arith, marks-all c (page_ok H) h, marks-count c (page_ok H), used_one, own-few c (page_ok H).in_range))) (bool? (has_clear c k))

  listed : Mem p (m.lists c)
  listed = W.class-lists.all c p (rw is (open_slab c k ∙ unfilled))

  abbrev less : ℕ → List ℕ
  less = upd m.lists c (keep (others p) (m.lists c))

  abbrev n : State
  n = record { size = m.size; page = fill m.page p 1 idle; runs = join_runs p 1 m.runs; lists = less; tally = m.tally }

  next : drop_page m p c k ≡ n
  unfolding drop_page release relisted
  next = rw unfilled

  Wn : WellFormed n
  Wn = rw next at (drop-well m W p c k i is in_use in-range set last)

  here : n.page p ≡ idle
  here = fill_in m.page p 1 idle p (omega arith) (omega arith)

  there : (q : ℕ) → q ≢ p → n.page q ≡ m.page q
  there q d = fill_out m.page p 1 idle q (one_off p q d)

  -- ---- counts

  free_more : (state_image m).free_pages + 1 ≡ (state_image n).free_pages
  unfolding state_image
  free_more = let z = rw (is, here) at (free-frame m n refl p (page-below H) there) in omega arith

  used_same : (d : ℕ) → d ≢ c → used_of n d ≡ used_of m d
  used_same d e =
      let z = rw (is, here) at (used-frame m n refl p (page-below H) there d) in
      omega (arith, used-none d idle refl, used-none d (slab c k) (ne_eqb c d (λ y. e (sym y))))

  total_same : (d : ℕ) → d ≢ c → (shown n).total d ≡ (shown m).total d
  total_same d e = let z = rw (is, here, ne_eqb c d (λ y. e (sym y))) at (total-frame m n refl p (page-below H) there d) in omega arith

  own-record : page_back c ((midway m n).class c) ≡ (state_image n).class c
  unfolding state_image
  own-record =
      let u : used_of m c - 1 ≡ used_of n c = omega (arith, rw (is, here) at (used-frame m n refl p (page-below H) there c), used-none c idle refl, used_one) in
      let t : (shown m).total c - counted c ≡ (shown n).total c = omega (arith, rw (is, here, eq-eqb c c refl) at (total-frame m n refl p (page-below H) there c)) in
      λ j. class_record ((state_image n).class c).first.0 (u j) (t j) (m.tally c)

  -- ---- lists

  abbrev J : Image
  J = unlink (state_image m) (suc c) ((state_image m).links p)

  abbrev K : Image
  K = released_on J p 1 (ends_at p m.runs) (starts_at (p + 1) m.runs)

  relinked : Relinked (state_image m) J
  relinked = unlink_relinked (state_image m) (suc c) ((state_image m).links p)

  busy : (q : ℕ) → p ≤ q → q < p + 1 → is_idle (m.page q) ≡ false
  busy q a b = let e : q ≡ p = omega arith in rw (e, is)

  T : Scene P m.page m.runs less
  T = remarked.less_scene H listed

  off : (d q : ℕ) → d ≤ 8 → p ≤ q → q < p + 1 → ¬ Mem q (less d)
  off d q l a b = let e : q ≡ p = omega arith in rw e ((remarked.less_unlisted H listed).no-class d l)

  shows : ShowsOn (λ q. (q < P) × Out p 1 q) m.page m.runs less J
  shows = remarked.delisted-shows H listed

  lists_drawn : pages_released w (delisted w (draw w s m) c p) P p 1 ≡ paint w P (midway m n) S
  lists_drawn =
      rw (
        remarked.delisted_drawn H listed,
        released-paint w P wide narrow T (remarked.delisted-fits H listed) p 1 shows (omega arith) (omega (arith, page-below H)) busy off
            (λ q l e. omega (arith, W.table.ends q e)) most S (remarked.records_room H),
      )
      (shown-midway m n W Wn refl few K (released-shows T p 1 shows (omega arith) (omega (arith, page-below H)) busy off)
      (released-pages T p 1 shows (omega arith) (omega (arith, page-below H)) busy off ∙ ap (λ (x : ℕ). x + 1) relinked.free_pages ∙ free_more)
      (λ d. class d) (λ q. ap (λ (f : ℕ → ℕ). f q) (released-map T p 1 shows (omega arith) (omega (arith, page-below H)) busy off ∙ relinked.map)) w S)
    where
      most : J.free_pages + 1 < 65536
      most = rw relinked.free_pages (unfold state_image free_in in omega (arith, count_bound (λ j. is_idle (m.page j)) m.size))

      class : (d : ℕ) → K.class d ≡ first_to ((state_image m).class d) (K.class d).first.0
      class d =
          let e : K.class d ≡ J.class d = ap (λ (f : ℕ → ClassRecord). f d) (released-class T p 1 shows (omega arith) (omega (arith, page-below H)) busy off) in
          e ∙ relinked.class d ∙ ap (λ (r : ClassRecord). first_to ((state_image m).class d) r.first.0) (sym e)

  -- ---- maps

  -- no mark but the map's own is left
  no_field : map_of (slab c k') ≡ 0
  no_field = ⊎_elim (λ (h : c < 3). map_paged c k' h) (λ (h : 3 ≤ c). map_recorded c k' h ∙ bits_ext k' (λ j. false) 64 (λ j l. clear h j (lt? j (chunks c))) ∙ (unfold bits_of in refl)) (lt? c 3)
    where
      clear : 3 ≤ c → (j : ℕ) → (j < chunks c) ⊎ (chunks c ≤ j) → k' j ≡ false
      clear h j (inl l) = none-taken c k' last j (omega (arith, own-past c h)) l
      clear h j (inr l) = upd_other k i false j (omega arith) ∙ (page_ok H).past_clear j l

  abbrev m₁ : State
  m₁ = with_page m p (slab c k')

  maps : (q : ℕ) → q < P → (state_image m).map q < 18446744073709551616
  maps q h = unfold state_image in map-small (m.page q)

  -- to write the maps of n, which m₁ has, changes nothing
  maps_stay : mapped w n (mapped w m₁ s) ≡ mapped w m₁ s
  maps_stay = sym (mapped-is w n (mapped w m₁ s) (mapped w m₁ s) refl (λ j f. refl) (λ q j a e. go q j e (eq? q p)))
    where
      go : (q j : ℕ) → map_has (n.page q) j ≡ true → (q ≡ p) ⊎ (q ≢ p) → get_or (mapped w m₁ s) (pages_from w P + 4096 * q + j) 0 ≡ map_byte (n.page q) j
      go q j e (inl z) = absurd (clash e (ap (λ (x : Page). map_has x j) (ap n.page z ∙ here)))
      go q j e (inr z) =
          let same : n.page q ≡ m₁.page q = there q z ∙ sym (upd_other m.page p (slab c k') q z) in
          let (d, h, y, b, u) = has-map (m₁.page q) j (ap (λ (x : Page). map_has x j) (sym same) ∙ e) in
          let l : q < P = in_table W.table q (λ v. never (cc (there q z))) in
          let (v, f, g) = small-chunks d b in
          mapped-map w m₁ s q d h y b j u (omega arith) ∙ map_byte_lem d h j ∙ ap (λ (x : Page). map_byte x j) (sym (same ∙ y))

  cleared : with_mark (draw w s m) (map_base w P p c) i false ≡ paint w P (set_map (state_image m) p (map_of (slab c k'))) (mapped w m₁ s)
  unfolding draw
  cleared = mark_drawn w s m W room p (page-below H) wide narrow few B (state_image m) (state-fits W few) maps c k is (unfold state_image in (rw is)) i false in-range

  over : draw w (with_mark (draw w s m) (map_base w P p c) i false) n ≡ paint w P (state_image n) (mapped w m₁ s)
  over =
      rw cleared
      (unfold draw in
      (ap (paint w P (state_image n)) (mapped-paint w wide n (set_map (state_image m) p (map_of (slab c k'))) (mapped w m₁ s))
      ∙ paint_over w P wide (state_image n) (set_map (state_image m) p (map_of (slab c k'))) (mapped w n (mapped w m₁ s))
      ∙ ap (paint w P (state_image n)) maps_stay))

  pub page_dropped_lem : chunk_freed w (draw w s m) P c p i ≡ draw w (with_mark (draw w s m) (map_base w P p c) i false) (drop_page m p c k)
  unfolding chunk_freed freed_at page_dropped count_page_back pick
  page_dropped_lem =
      let F = midway-fits m n W Wn refl few in
      let z : with_mark (pages_released w (delisted w (draw w s m) c p) P p 1) (map_base w P p c) i false ≡ paint w P (set_map (midway m n) p (map_of (slab c k'))) (mapped w m₁ s) =
      ap (λ (t : List ℕ). with_mark t (map_base w P p c) i false) lists_drawn
      ∙ mark_drawn w s m W room p (page-below H) wide narrow few B (midway m n) F maps c k is (unfold state_image in (rw is)) i false in-range in
      rw (last_told, remarked.base H, bit-own c i in-range, z, next)
      (class_drawn w P wide (set_map (midway m n) p (map_of (slab c k'))) (mapped w m₁ s) (rw (length-mapped w m₁ s) (omega arith)) (fits-map F p (map_of (slab c k'))) c
      (page_ok H).in_range (page_back c)
      ∙ counts_drawn m n W Wn refl few c _ _ (λ q h. map_frame m n p (map_of (slab c k')) there (ap map_of here ∙ sym no_field) q) own-record
      (λ d e. class_same m n W Wn refl few d (used_same d e) (total_same d e) refl) w (mapped w m₁ s) ∙ sym over)
