-- A chunk is handed out of the first page of its class list: the bytes become the drawing of the next state.
use mathlib.Core.Path.{◌≡◌, refl, sym, ap, ◌∙◌}
use mathlib.Core.Logic.{inl, ⊎_elim, ◌≢◌}
use mathlib.Core.Bool.{Bool, true, false, not, cond}
use mathlib.Core.List.{List, ◌∷◌}
use Prim.Native.Nat.{ℕ, suc, ◌+◌, ◌/◌, ◌%◌, ◌≤◌, ◌<◌}
use native.Mathlib.Omega.{arith}
use borrow.Author.Tests.{eq-eqb, ne_eqb}
use Rattle.base.specs.Tests.{pick}
use Rattle.base.specs.Functions.{upd}
use Rattle.base.specs.Lists.{Mem, NoDup, keep}
use Rattle.base.specs.Links.{head_or, others}
use Rattle.base.proofs.Cases.{clash, lt?, bool?}
use Rattle.base.proofs.Functions.{upd_same, upd_other, upd_out}
use Rattle.records.specs.Layout.{no_page}
use Rattle.model.specs.Classes.{chunks, own, lowest, has_clear}
use Rattle.model.specs.State.{slab, State}
use Rattle.model.specs.View.{used_on, used_of, shown}
use Rattle.model.specs.Calls.{asked, mark_chunk}
use Rattle.model.specs.WellFormed.{WellFormed}
use Rattle.model.proofs.Classes.{lowest_clear_lem}
use Rattle.model.proofs.Lists.{open_slab}
use Rattle.model.proofs.MarkChunk.{mark-well}
use Rattle.image.specs.Image.{Image, paint, set_links}
use Rattle.lists.specs.Nodes.{unlink}
use Rattle.lists.proofs.Laws.{Relinked, unlink_relinked}
use Rattle.lists.proofs.Paint.{Maybe, small}
use Rattle.rules.specs.Drawn.{links, class_record, state_image}
use Rattle.rules.proofs.Fits.{state-fits}
use Rattle.shows.specs.Shows.{Unlisted, ShowsLinks}
use Rattle.run_laws.proofs.Starts.{keep_every}
use Rattle.run_laws.proofs.Cut.{shows-written}
use Rattle.classes.specs.Mirror.{map_word, chunk_carried, count_used, count_used_first}
use Rattle.maps.specs.Bitmap.{with_mark}
use Rattle.maps.specs.Mirror.{lowest_clear}
use Rattle.rules.specs.Bytes.{map_base}
use Rattle.map_count.specs.Mirror.{map_bits}
use Rattle.map_occupancy.specs.Mirror.{last_free}
use Rattle.map_occupancy.proofs.Words.{bit-own}
use Rattle.chunks.specs.Mirror.{class_links, set_aside, taken_counted, taken_at, chunk_taken}
use Rattle.drawing.specs.Draw.{mapped, draw}
use Rattle.chunk_laws.specs.Midway.{midway}
use Rattle.chunk_laws.proofs.Counts.{used_bump}
use Rattle.chunk_laws.proofs.Lists.{off_list, head_out, first-left}
use Rattle.chunk_laws.proofs.Remarked.{Here, page_ok, page-below}
use Rattle.chunk_laws.proofs.Remarked as remarked

module _ {w : ℕ} {s : List ℕ} {m : State} {p c : ℕ} {k : ℕ → Bool} (H : Here w s m p c k) (rest : List ℕ) (on : m.lists c ≡ p ∷ rest) where
  open H use {well as W, few, is}

  abbrev P : ℕ
  P = m.size

  abbrev S : List ℕ
  S = mapped w m s

  abbrev i : ℕ
  i = lowest c k

  abbrev k' : ℕ → Bool
  k' = upd k i true

  listed : Mem p (m.lists c)
  listed = rw on (inl refl)

  once : NoDup (p ∷ rest)
  once = rw on at (W.class-lists.once c)

  some : has_clear c k ≡ true
  some = sym (open_slab c k) ∙ (rw is at (W.class-lists.holds c p listed))

  clear : (i < chunks c) × (k i ≡ false)
  clear = lowest_clear_lem c k some

  pub lowest-found : lowest_clear (draw w s m) (map_base w P p c) (map_bits c) ≡ i
  lowest-found = remarked.lowest-found H some

  in_use : own c ≤ i
  in_use = ⊎_elim (λ (h : i < own c). absurd (clash ((page_ok H).own-set i h) clear.1)) (λ (h : own c ≤ i). h) (lt? i (own c))

  -- the next state, by the list that class c has then
  abbrev n : List ℕ → State
  n l = record {
    size = m.size;
    page = upd m.page p (slab c k');
    runs = m.runs;
    lists = upd m.lists c l;
    tally = upd m.tally c (asked (m.tally c));
  }

  abbrev l : List ℕ
  l = cond (has_clear c k') (p ∷ rest) rest

  Wn : WellFormed (n l)
  unfolding mark_chunk
  Wn = mark-well m W c p rest k on is

  used_more : used_on c (slab c k') ≡ used_on c (slab c k) + 1
  used_more = used_bump c k k' i in_use clear.0 clear.1 (upd_same k i true) (upd_other k i true)

  -- ---- the class record

  own-record : chunk_carried ((midway m (n l)).class c) ≡ (state_image (n l)).class c
  unfolding state_image asked
  own-record =
      let F = (state-fits Wn few).class c (omega (arith, (page_ok H).in_range)) in
      let u : used_of m c + 1 ≡ used_of (n l) c = omega (arith, used_more, remarked.used-own H i true clear.0 l (n l).tally) in
      let f : (((state_image (n l)).class c).first.0 + (used_of m c + 1) / 16777216) % 65536 ≡ ((state_image (n l)).class c).first.0 = omega (arith, u, F.used, F.first) in
      let t : (shown m).total c ≡ (shown (n l)).total c = sym (remarked.total_same H i true clear.0 l (n l).tally c) in
      let a : asked (m.tally c) ≡ (n l).tally c = sym (upd_same m.tally c (asked (m.tally c))) in
      λ j. class_record (f j) (u j) (t j) (a j)

  -- ---- the lists

  last : (b : Bool) → has_clear c k' ≡ b → last_free (draw w s m) (map_word w P p c) c i ≡ not b
  last b h = remarked.last_free-told H i clear.0 clear.1 ∙ ap not h

  other_tally : (d : ℕ) → d ≢ c → (n l).tally d ≡ m.tally d
  other_tally d e = upd_other m.tally c (asked (m.tally c)) d e

  stays : has_clear c k' ≡ true → with_mark (taken_counted w (draw w s m) c p (last_free (draw w s m) (map_word w P p c) c i)) (map_base w P p c) i true ≡ draw w s (n l)
  unfolding taken_counted count_used pick
  stays h =
      rw (last true h)
      (remarked.remarked_drawn H i true clear.0 l (n l).tally Wn chunk_carried own-record other_tally _
      (remarked.list_stays H i true clear.0 l (n l).tally Wn (on ∙ rw h)))

  leaves : has_clear c k' ≡ false → with_mark (taken_counted w (draw w s m) c p (last_free (draw w s m) (map_word w P p c) c i)) (map_base w P p c) i true ≡ draw w s (n l)
  unfolding taken_counted count_used_first set_aside pick
  leaves h =
      rw (last false h, remarked.links-told H)
      (remarked.relinked_drawn H i true clear.0 l (n l).tally Wn chunk_carried own-record other_tally no_page after no_page after (omega arith) near (omega arith)
      (small P (omega arith) near)
      (ap (λ (I : Image). paint w P I S) (first-left (state_image m) c p (class_links c) (rw first) (rw first (head_out no_page p rest (omega (arith, page-below H)) once.0)))
      ∙ remarked.lists_drawn H i true clear.0 l (n l).tally Wn less (set_links J p (class_links c))
      (λ d. ap (λ (x : List ℕ). upd m.lists c x d) (gone ∙ rw h)) aside relinked.free_pages relinked.class relinked.map) _ refl)
    where
      first : (state_image m).links p ≡ links 2 c 0 (head_or no_page rest) no_page
      first = remarked.page_links_lem H ∙ rw (on, eq-eqb p p refl)

      after : ℕ
      after = ((state_image m).links p).next.0

      near : Maybe P after
      near = remarked.next_near H listed

      J : Image
      J = unlink (state_image m) (suc c) ((state_image m).links p)

      relinked : Relinked (state_image m) J
      relinked = unlink_relinked (state_image m) (suc c) ((state_image m).links p)

      less : ℕ → List ℕ
      less = upd m.lists c (keep (others p) (m.lists c))

      gone : keep (others p) (m.lists c) ≡ rest
      gone =
          unfold others in
          rw (on, eq-eqb p p refl) (keep_every (others p) rest (λ q r. rw (ne_eqb q p (λ e. once.0 (rw (← e) r)))))

      off : Unlisted m.runs less p
      off = remarked.less_unlisted H listed

      aside : ShowsLinks P m.page m.runs less (set_links J p (class_links c))
      aside =
          shows-written (remarked.less_scene H listed) p 1 (remarked.delisted-shows H listed)
          (λ q a b. let e : q ≡ p = omega arith in rw e off)
          (upd J.links p (class_links c)) (upd_out J.links p (class_links c))
          (λ q a b.
          let e : q ≡ p = omega arith in
          rw (e, upd_same J.links p (class_links c), is) (sym (off_list m.runs less p c k (off.no-class c (page_ok H).in_range))))

  pub chunk_taken_lem : chunk_taken w (draw w s m) P c p i ≡ draw w s (mark_chunk m c p rest k).after
  unfolding chunk_taken taken_at mark_chunk
  chunk_taken_lem = rw (remarked.base H, bit-own c i clear.0) (⊎_elim stays leaves (bool? (has_clear c k')))
