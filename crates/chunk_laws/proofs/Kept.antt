-- A chunk comes back and others of its page stay taken: the bytes become the drawing of the next state.
use mathlib.Core.Path.{◌≡◌, refl, sym, ◌∙◌, ap}
use mathlib.Core.Logic.{◌⊎◌, inl, inr, ⊎_elim, ◌≢◌}
use mathlib.Core.Bool.{Bool, true, false, not}
use mathlib.Core.List.{List, [], ◌∷◌}
use Prim.Native.Nat.{ℕ, suc, ◌+◌, ◌/◌, ◌%◌, ◌≤◌, ◌<◌}
use native.Mathlib.Omega.{arith}
use Rattle.base.specs.Tests.{pick}
use Rattle.base.specs.Functions.{upd}
use Rattle.base.specs.Lists.{Mem}
use Rattle.base.specs.Links.{head_or}
use Rattle.base.proofs.Cases.{eq?, bool?}
use Rattle.base.proofs.Functions.{upd_same, upd_other}
use Rattle.records.specs.Layout.{no_page}
use Rattle.model.specs.Classes.{chunks, own, has_clear, has_taken}
use Rattle.model.specs.State.{slab, State, is_open}
use Rattle.model.specs.View.{used_on, used_of, shown}
use Rattle.model.specs.Calls.{relisted, keep_page}
use Rattle.model.specs.WellFormed.{WellFormed}
use Rattle.model.proofs.Lists.{open_slab, open_other}
use Rattle.model.proofs.FreeChunk.{kept-well}
use Rattle.image.specs.Image.{Image, paint, set_links}
use Rattle.lists.specs.Mirror.{between}
use Rattle.lists.specs.Nodes.{first_in, push}
use Rattle.lists.proofs.Laws.{Relinked, push_relinked}
use Rattle.lists.proofs.Paint.{Maybe, small}
use Rattle.maps.specs.Bitmap.{with_mark}
use Rattle.rules.specs.Bytes.{map_base}
use Rattle.rules.specs.Drawn.{class_record, state_image}
use Rattle.rules.proofs.Fits.{state-fits}
use Rattle.shows.specs.Shows.{Unlisted}
use Rattle.shows.proofs.Shows.{state-shows, not_start, not_listed}
use Rattle.run_laws.proofs.Shown.{state_scene}
use Rattle.classes.specs.Mirror.{chunk_borrowed, count_back, count_back_first}
use Rattle.map_occupancy.proofs.Words.{bit-own}
use Rattle.chunks.specs.Mirror.{class_links, set_before, back_counted, kept_at, freed_at, chunk_freed}
use Rattle.drawing.specs.Draw.{mapped, draw}
use Rattle.chunk_laws.specs.Midway.{midway}
use Rattle.chunk_laws.proofs.Counts.{used_bump}
use Rattle.chunk_laws.proofs.Lists.{pushed-shows, first-pushed}
use Rattle.chunk_laws.proofs.Remarked.{Here, page_ok, page-below}
use Rattle.chunk_laws.proofs.Remarked as remarked

no_borrow : (x y : ℕ) → y ≡ 1 → x < 65536 → (x + 65535 + y) % 65536 ≡ x
no_borrow x y e h = rw e (omega arith)

module _ {w : ℕ} {s : List ℕ} {m : State} {p c : ℕ} {k : ℕ → Bool} (H : Here w s m p c k)
    (i : ℕ) (in_use : own c ≤ i) (in-range : i < chunks c) (set : k i ≡ true) (stay : has_taken c (upd k i false) ≡ true) where
  open H use {well as W, few, is}

  abbrev P : ℕ
  P = m.size

  abbrev S : List ℕ
  S = mapped w m s

  abbrev k' : ℕ → Bool
  k' = upd k i false

  -- the list that class c has then
  abbrev l : List ℕ
  l = relisted (has_clear c k) p (m.lists c)

  abbrev n : State
  n = record { size = m.size; page = upd m.page p (slab c k'); runs = m.runs; lists = upd m.lists c l; tally = m.tally }

  Wn : WellFormed n
  unfolding keep_page
  Wn = kept-well m W p c k i is in_use in-range set stay

  used_more : used_on c (slab c k) ≡ used_on c (slab c k') + 1
  used_more = used_bump c k' k i in_use in-range (upd_same k i false) set (λ j d. sym (upd_other k i false j d))

  -- ---- the class record

  own-record : chunk_borrowed ((midway m n).class c) ≡ (state_image n).class c
  unfolding state_image
  own-record =
      let F = (state-fits W few).class c (omega (arith, (page_ok H).in_range)) in
      let G = (state-fits Wn few).class c (omega (arith, (page_ok H).in_range)) in
      let o : used_of m c ≡ used_of n c + 1 = omega (arith, used_more, remarked.used-own H i false in-range l m.tally) in
      let u : (used_of m c + 16777215) % 16777216 ≡ used_of n c = omega (arith, o, F.used) in
      let y : (used_of m c + 16777215) / 16777216 ≡ 1 = omega (arith, o, F.used) in
      let f : (((state_image n).class c).first.0 + 65535 + (used_of m c + 16777215) / 16777216) % 65536 ≡ ((state_image n).class c).first.0 = no_borrow _ _ y G.first in
      let t : (shown m).total c ≡ (shown n).total c = sym (remarked.total_same H i false in-range l m.tally c) in
      λ j. class_record (f j) (u j) (t j) (m.tally c)

  -- ---- the lists

  stays : has_clear c k ≡ true → with_mark (back_counted w (draw w s m) c p) (map_base w P p c) i false ≡ draw w s n
  unfolding back_counted count_back pick relisted
  stays h =
      rw (remarked.off-told H ∙ ap not h)
      (remarked.remarked_drawn H i false in-range l m.tally Wn chunk_borrowed own-record (λ d e. refl) _
      (remarked.list_stays H i false in-range l m.tally Wn (rw h)))

  returns : has_clear c k ≡ false → with_mark (back_counted w (draw w s m) c p) (map_base w P p c) i false ≡ draw w s n
  unfolding back_counted count_back_first set_before pick
  returns h =
      rw (remarked.off-told H ∙ ap not h, remarked.class-told H)
      (remarked.relinked_drawn H i false in-range l m.tally Wn chunk_borrowed own-record (λ d e. refl) first first p p (small P (omega arith) near) near
      (omega (arith, page-below H)) (omega (arith, page-below H))
      (ap (λ (I : Image). paint w P I S) (first-pushed (state_image m) c p (class_links c))
      ∙ remarked.lists_drawn H i false in-range l m.tally Wn (upd m.lists c (p ∷ m.lists c)) L
      (λ d. unfold relisted in (rw h))
      (pushed-shows (state_scene W (omega arith)) c (page_ok H).in_range (W.class-lists.once c) (remarked.lists-apart m W few c) (state-shows m W (omega arith)) p (page-below H) off k is
      (λ q h o. h))
      pushed.free_pages pushed.class pushed.map) _ refl)
    where
      L : Image
      L = push (state_image m) (suc c) p (class_links c)

      pushed : Relinked (set_links (state_image m) p (between (class_links c) no_page (first_in (state_image m) (suc c)))) L
      pushed = push_relinked (state_image m) (suc c) p (class_links c)

      first : ℕ
      first = ((state_image m).class c).first.0

      near : Maybe P first
      near = unfold state_image in (go (m.lists c) (λ q h. ((state_scene W (omega arith)).class_in c q (page_ok H).in_range h).0))
        where
          go : (xs : List ℕ) → ((q : ℕ) → Mem q xs → q < P) → Maybe P (head_or no_page xs)
          go [] h = inl refl
          go (x ∷ xs) h = inr (h x (inl refl))

      off : Unlisted m.runs m.lists p
      off = record {
        no_run = not_start W.table W.free_runs W.class-lists p (rw is);
        no-class = λ d o. not_listed W.table W.free_runs W.class-lists d p (rw is (closed d (eq? d c)));
      }
        where
          closed : (d : ℕ) → (d ≡ c) ⊎ (d ≢ c) → is_open d (slab c k) ≡ false
          closed d (inl e) = rw e (open_slab c k ∙ h)
          closed d (inr e) = open_other c d k e

  pub chunk_kept : chunk_freed w (draw w s m) P c p i ≡ draw w s (keep_page m p c k i)
  unfolding chunk_freed freed_at kept_at keep_page pick
  chunk_kept =
      rw (remarked.last_taken-told H i in_use in-range set ∙ ap not stay, remarked.base H, bit-own c i in-range) (⊎_elim stays returns (bool? (has_clear c k)))
