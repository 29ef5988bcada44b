-- A page is cut for a class whose list is empty: the bytes become the drawing of the next state.
use mathlib.Core.Path.{◌≡◌, refl, sym, ap, ◌∙◌, subst, fun_ext}
use mathlib.Core.Logic.{◌⊎◌, inl, inr, ◌≢◌}
use mathlib.Core.Bool.{Bool, true, false}
use mathlib.Core.Option.{some}
use mathlib.Core.List.{List, [], ◌∷◌}
use Prim.Native.Nat.{ℕ, suc, ◌+◌, ◌-◌, ◌*◌, ◌/◌, ◌%◌, ◌≤◌, ◌<◌}
use native.Mathlib.Omega.{arith}
use lib.ListN.{length}
use borrow.Author.Tests.{eq-eqb, ne_eqb, le-leb, leb-true}
use Rattle.base.specs.Tests.{pick}
use Rattle.base.specs.Functions.{upd}
use Rattle.base.proofs.Cases.{clash, eq?, decided}
use Rattle.base.proofs.Functions.{upd_same, upd_other, upd_out}
use Rattle.words.specs.Word.{Bytes}
use Rattle.records.specs.Layout.{no_page}
use Rattle.records.specs.declared.ClassRecord.{ClassRecord}
use Rattle.records.specs.Mirror.{first_to}
use Rattle.model.specs.Classes.{own, counted, has_taken, new_marks}
use Rattle.model.specs.State.{Page, idle, slab, Run, State, is_idle}
use Rattle.model.specs.Runs.{fit, carve}
use Rattle.model.specs.View.{used_on, used_of, shown}
use Rattle.model.specs.Calls.{asked, cut_page}
use Rattle.model.specs.WellFormed.{WellFormed}
use Rattle.model.proofs.Classes.{own-few, some-taken}
use Rattle.model.proofs.Table.{is_idle_lem}
use Rattle.model.proofs.Runs.{fit_found}
use Rattle.model.proofs.CutPage.{cut-well}
use Rattle.image.specs.Image.{Image, paint, set_links}
use Rattle.image.specs.Update.{set_map}
use Rattle.image.proofs.Fits.{Fits}
use Rattle.lists.specs.Mirror.{between}
use Rattle.lists.specs.Nodes.{first_in, push}
use Rattle.lists.proofs.Laws.{Relinked, push_relinked}
use Rattle.lists.proofs.Paint.{Maybe}
use Rattle.rules.specs.Drawn.{map_of, class_record, state_image}
use Rattle.rules.proofs.Fits.{state-fits}
use Rattle.shows.specs.Shows.{ShowsLinks}
use Rattle.shows.proofs.Shows.{state-shows}
use Rattle.run_extents.specs.Mirror.{front_page}
use Rattle.run_laws.specs.Scene.{Scene}
use Rattle.run_laws.specs.OnImage.{front_on}
use Rattle.run_laws.proofs.Cut.{front_pages, front_class, front_map, front_scene, front_unlisted, front_shows}
use Rattle.run_laws.proofs.Laws.{front_fits, front_paint}
use Rattle.run_laws.proofs.Shown.{state_scene}
use Rattle.classes.specs.Mirror.{page_used, count_page_used}
use Rattle.chunks.specs.Mirror.{class_links, enlisted, new_map_at, page_cut}
use Rattle.drawing.specs.Draw.{in_map, mapped_byte, mapped, draw}
use Rattle.drawing.proofs.Mapped.{length-mapped}
use Rattle.drawing.proofs.Drawn.{map-small}
use Rattle.chunk_laws.specs.Midway.{midway}
use Rattle.chunk_laws.proofs.Counts.{used-frame, total-frame, free-frame, used-none, used_bump, used-no}
use Rattle.chunk_laws.proofs.Maps.{new_drawn}
use Rattle.chunk_laws.proofs.Lists.{pushed-shows, enlisted_painted}
use Rattle.chunk_laws.proofs.Next.{fits-map, map_frame, class_drawn, midway-fits, shown-midway, class_same, counts_drawn}
use Rattle.chunk_laws.proofs.Remarked.{lists-apart}

-- one chunk of a new page is in a caller's hands
used-new : (c : ℕ) → c ≤ 8 → used_on c (slab c (new_marks c)) ≡ 1
unfolding new_marks
used-new c ok =
    let k : ℕ → Bool = upd (new_marks c) (own c) false in
    let z : has_taken c k ≡ false = decided (has_taken c k) (λ t. let (i, o, l, e) = some-taken c k t in none i o e (eq? i (own c))) in
    let b : used_on c (slab c (new_marks c)) ≡ used_on c (slab c k) + 1 =
    used_bump c k (new_marks c) (own c) (omega arith) (omega (arith, own-few c ok)) (upd_same (new_marks c) (own c) false) (le-leb (own c) (own c) (omega arith))
    (λ j d. sym (upd_other (new_marks c) (own c) false j d)) in
    omega (arith, used-no c k z)
  where
    none : (i : ℕ) → own c ≤ i → upd (new_marks c) (own c) false i ≡ true → (i ≡ own c) ⊎ (i ≢ own c) → ⊥
    none i o e (inl d) = clash e (ap (upd (new_marks c) (own c) false) d ∙ upd_same (new_marks c) (own c) false)
    none i o e (inr d) =
        unfold new_marks in
        let h : i ≤ own c = leb-true i (own c) (sym (upd_other (new_marks c) (own c) false i d) ∙ e) in
        d (omega arith)

module _ (w : ℕ) (wide : 2 ≤ w) (narrow : w ≤ 255) (s : List ℕ) (B : Bytes s) (m : State) (W : WellFormed m) (few : m.size ≤ 4096)
    (room : 8 + 72 * w + 4112 * m.size ≤ length s) (c : ℕ) (ok : c ≤ 8) (empty : m.lists c ≡ []) (r : Run) (found : fit 1 m.runs ≡ some r) where
  abbrev P : ℕ
  P = m.size

  abbrev S : List ℕ
  S = mapped w m s

  abbrev p : ℕ
  p = r.start

  abbrev x : Page
  x = slab c (new_marks c)

  abbrev n : State
  n = record {
    size = m.size;
    page = upd m.page p x;
    runs = carve 1 m.runs;
    lists = upd m.lists c (p ∷ []);
    tally = upd m.tally c (asked (m.tally c));
  }

  Wn : WellFormed n
  unfolding cut_page
  Wn = cut-well m W c ok empty r found

  T : Scene P m.page m.runs m.lists
  T = state_scene W (omega arith)

  shows : ShowsLinks P m.page m.runs m.lists (state_image m)
  shows = state-shows m W (omega arith)

  fits : Fits P (state_image m)
  fits = state-fits W few

  records_room : 1 + 9 * w + 2 * P ≤ length S / 8
  records_room = rw (length-mapped w m s) (omega arith)

  free : is_idle (m.page p) ≡ true
  free = let (mr, l) = fit_found 1 m.runs r found in (W.free_runs.sound r mr).all_free p (omega arith) (omega arith)

  was : m.page p ≡ idle
  was = is_idle_lem (m.page p) free

  below : p < P
  below = T.idle_in p free

  here : n.page p ≡ x
  here = upd_same m.page p x

  there : (q : ℕ) → q ≢ p → n.page q ≡ m.page q
  there q d = upd_other m.page p x q d

  -- ---- counts

  free_less : (state_image m).free_pages - 1 ≡ (state_image n).free_pages
  unfolding state_image
  free_less = let z = rw (was, here) at (free-frame m n refl p below there) in omega arith

  used_same : (d : ℕ) → d ≢ c → used_of n d ≡ used_of m d
  used_same d e =
      let z = rw (was, here) at (used-frame m n refl p below there d) in
      omega (arith, used-none d idle refl, used-none d x (ne_eqb c d (λ y. e (sym y))))

  total_same : (d : ℕ) → d ≢ c → (shown n).total d ≡ (shown m).total d
  total_same d e = let z = rw (was, here, ne_eqb c d (λ y. e (sym y))) at (total-frame m n refl p below there d) in omega arith

  own-record : page_used c ((midway m n).class c) ≡ (state_image n).class c
  unfolding state_image asked
  own-record =
      let F = fits.class c (omega arith) in
      let N = (state-fits Wn few).class c (omega arith) in
      let u : used_of m c + 1 ≡ used_of n c =
      omega (arith, F.used, rw (was, here) at (used-frame m n refl p below there c), used-none c idle refl, used-new c ok) in
      let t : (shown m).total c + counted c ≡ (shown n).total c =
      omega (arith, F.total, rw (was, here, eq-eqb c c refl) at (total-frame m n refl p below there c)) in
      let z : ((shown m).total c + counted c) / 16777216 ≡ 0 = omega (arith, t, N.total) in
      let v : used_of m c + 1 + ((shown m).total c + counted c) / 16777216 ≡ used_of n c = omega (arith, u, z) in
      let f : (((state_image n).class c).first.0 + (used_of m c + 1 + ((shown m).total c + counted c) / 16777216) / 16777216) % 65536 ≡ ((state_image n).class c).first.0 =
      omega (arith, v, N.used, N.first) in
      let a : asked (m.tally c) ≡ n.tally c = sym (upd_same m.tally c (asked (m.tally c))) in
      λ j. class_record (f j) (v j) (t j) (a j)

  -- ---- lists

  abbrev J : Image
  J = front_on (state_image m) p 1

  abbrev L : Image
  L = push J (suc c) p (class_links c)

  busy : (q : ℕ) → p ≤ q → q < p + 1 → is_idle (n.page q) ≡ false
  busy q a b = let e : q ≡ p = omega arith in rw (e, here)

  no-first : Maybe P (first_in J (suc c))
  no-first =
      unfold first_in pick state_image in
      let e : suc c - 1 ≡ c = omega arith in
      rw (ne_eqb (suc c) 0 (omega arith), e, front_class T shows 1 (omega arith) r found, empty) (inl refl)

  lists_drawn : enlisted w (front_page w (draw w s m) p) c p ≡ paint w P (midway m n) S
  unfolding front_page draw
  lists_drawn =
      rw (
        front_paint w P wide narrow T fits shows 1 (omega arith) r found S records_room,
        enlisted_painted w P wide narrow (omega arith) S records_room (front_fits w P wide narrow T fits shows 1 (omega arith) r found) c p ok below no-first,
      )
      (shown-midway m n W Wn refl few L
      (subst (λ (ls : ℕ → List ℕ). ShowsLinks P n.page n.runs ls L) (fun_ext (λ d. ap (λ (xs : List ℕ). upd m.lists c (p ∷ xs) d) empty))
      (pushed-shows (front_scene T shows 1 (omega arith) r found n.page (upd_out m.page p x) busy) c ok (W.class-lists.once c) (lists-apart m W few c)
      (front_shows T shows 1 (omega arith) r found n.page (upd_out m.page p x) busy) p below
      (front_unlisted T shows 1 (omega arith) r found n.page (upd_out m.page p x) busy p (omega arith) (omega arith)) (new_marks c) here (λ q h o. (h, o))))
      (pushed.free_pages ∙ front_pages T shows 1 (omega arith) r found ∙ free_less)
      (λ d. pushed.class d ∙ ap (λ (f : ℕ → ClassRecord). first_to (f d) (L.class d).first.0) (front_class T shows 1 (omega arith) r found))
      (λ q. ap (λ (f : ℕ → ℕ). f q) (pushed.map ∙ front_map T shows 1 (omega arith) r found)) w S)
    where
      pushed : Relinked (set_links J p (between (class_links c) no_page (first_in J (suc c)))) L
      pushed = push_relinked J (suc c) p (class_links c)

  pub page_cut_lem : page_cut w (draw w s m) P c p ≡ draw w s (cut_page m c (some r)).after
  unfolding page_cut count_page_used new_map_at draw cut_page mapped mapped_byte in_map
  page_cut_lem =
      let F = midway-fits m n W Wn refl few in
      let z : new_map_at w (enlisted w (front_page w (draw w s m) p) c p) P c p ≡ paint w P (set_map (midway m n) p (map_of x)) (mapped w n s) =
      ap (λ (t : List ℕ). new_map_at w t P c p) lists_drawn
      ∙ new_drawn w s m W room p below wide narrow few B (midway m n) F (λ q h. unfold state_image in map-small (m.page q)) c (λ j. rw was) (unfold state_image in (rw was)) in
      rw z
      (class_drawn w P wide (set_map (midway m n) p (map_of x)) (mapped w n s) (rw (length-mapped w n s) (omega arith)) (fits-map F p (map_of x)) c ok (page_used c)
      ∙ counts_drawn m n W Wn refl few c _ _ (λ q h. map_frame m n p (map_of x) there (ap map_of here) q) own-record
      (λ d e. class_same m n W Wn refl few d (used_same d e) (total_same d e) (upd_other m.tally c (asked (m.tally c)) d e)) w (mapped w n s))
