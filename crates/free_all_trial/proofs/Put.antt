-- A mark written for an offset is `tentative` on the tentative pages that the bytes show, and another takes it back.
use mathlib.Core.Path.{◌≡◌, refl, sym, ap, ◌∙◌, fun_ext}
use mathlib.Core.Logic.{◌⊎◌, inl, inr, ◌≢◌}
use mathlib.Core.Bool.{Bool, true, false}
use mathlib.Core.List.{List}
use Prim.Native.Nat.{ℕ, zero, suc, ◌+◌, ◌*◌, ◌/◌, ◌%◌, ◌≤◌, ◌<◌}
use native.Mathlib.Omega.{arith}
use lib.ListN.{length}
use borrow.Author.Tests.{lt-ltb, le-ltb}
use Rattle.base.specs.Functions.{upd}
use Rattle.base.specs.Tests.{pick}
use Rattle.base.proofs.Cases.{never, eq?, lt?}
use Rattle.base.proofs.Functions.{upd_same, upd_other}
use Rattle.words.specs.Word.{Bytes}
use Rattle.records.specs.Layout.{map_place, page_count}
use Rattle.records.specs.Page.{links_at}
use Rattle.maps.specs.Bitmap.{mark, with_mark}
use Rattle.maps.proofs.Marks.{length-with_mark, with_mark-outside, with_mark-bytes, mark_same, mark_other, with_mark-back}
use Rattle.model.specs.Classes.{chunk, chunks, starts_chunk}
use Rattle.model.specs.State.{Page, idle, slab, taken, inside, edge}
use Rattle.model.specs.Ruling.{granted, verdict}
use Rattle.model.proofs.Classes.{chunk_start, chunk_index, small-chunks, large-chunks}
use Rattle.rules.specs.Fields.{page_of}
use Rattle.rules.specs.Bytes.{pages_in, map_base, mark_at}
use Rattle.rules.proofs.Pages.{taken-kind}
use Rattle.drawing.proofs.Encoding.{mark-past}
use Rattle.free_all_model.specs.Mirror.{tried, tentative_at, tentative}
use Rattle.free_all_model.proofs.Settled.{TrialOk, GrantedAt, granted-at}
use Rattle.free_all_trial.specs.Mirror.{shown_page, shown_trial, put_mark_at, put_mark}
use Rattle.free_all_trial.proofs.Changed.{Of, page-is, page-none, pages_same, links_same, pages-kept, flags_kept}

-- a page that is there
page_there : (w : ℕ) (s : List ℕ) (p : ℕ) (x : Page) → shown_page w s p ≡ x → x ≢ edge → p < pages_in w s
page_there w s p x e d = go (lt? p (pages_in w s))
  where
    go : (p < pages_in w s) ⊎ (pages_in w s ≤ p) → p < pages_in w s
    go (inl h) = h
    go (inr h) = absurd (d (sym e ∙ page-none w s p h))

slab-kind : (k c r : ℕ) (f : ℕ → Bool) (d : ℕ) (m : ℕ → Bool) → page_of k c r f ≡ slab d m → (k ≡ 2) × (c ≡ d) × (f ≡ m)
slab-kind zero c r f d m e = absurd (never (cc))
slab-kind (suc zero) c r f d m e = absurd (never (cc))
slab-kind (suc (suc zero)) c r f d m e = (refl, cc, cc)
slab-kind (suc (suc (suc zero))) c r f d m e = absurd (never (cc))
slab-kind (suc (suc (suc (suc zero)))) c r f d m e = absurd (never (cc))
slab-kind (suc (suc (suc (suc (suc k))))) c r f d m e = absurd (never (cc))

pub mark-low : (w : ℕ) (s : List ℕ) (p c k : ℕ) → k < chunks c → mark_at w s p c k ≡ mark s (map_base w (pages_in w s) p c) k
unfolding mark_at pick
mark-low w s p c k l = rw (lt-ltb k (chunks c) l)

-- bytes with room for their pages
pub record Room (w : ℕ) (s : List ℕ) : Type 0 where
  pub bytes : Bytes s
  pub some : 8 + 72 * w + 4112 ≤ length s

-- ---- a chunk

module _ (w : ℕ) (s : List ℕ) (R : Room w s) (p c i : ℕ) (m : ℕ → Bool) (was : shown_page w s p ≡ slab c m) (low : i < chunks c) (v : Bool) where
  abbrev base : ℕ
  base = map_base w (pages_in w s) p c

  abbrev t : List ℕ
  t = with_mark s base i v

  below : p < pages_in w s
  below = page_there w s p (slab c m) was (λ z. never (cc))

  here : Of w (pages_in w s) (base + i / 8) p
  unfolding map_base pick
  here = go (lt? c 3)
    where
      go : (c < 3) ⊎ (3 ≤ c) → Of w (pages_in w s) (map_base w (pages_in w s) p c + i / 8) p
      go (inl a) = let (k, y, u) = small-chunks c a in rw (lt-ltb c 3 a) (inr (omega arith, omega arith))
      go (inr a) = rw (le-ltb c 3 a) (inl (omega arith, omega (arith, large-chunks c a)))

  inside_slice : base + i / 8 < length s
  inside_slice = go here
    where
      go : Of w (pages_in w s) (base + i / 8) p → base + i / 8 < length s
      go (inl (a, b)) = omega (arith, R.some, below)
      go (inr (a, b)) = omega (arith, R.some, below)

  chunk-links : links_at w t p ≡ links_at w s p
  chunk-links = links_same w s t (base + i / 8) p (length-with_mark s base i v) (with_mark-outside s base i v) below here p below

  says : ((links_at w s p).kind ≡ 2) × ((links_at w s p).class ≡ c) × (mark_at w s p (links_at w s p).class ≡ m)
  says = slab-kind _ _ _ _ c m (sym (page-is w s p below) ∙ was)

  marks_are : (k : ℕ) → mark_at w s p c k ≡ m k
  marks_are k = let (x, y, z) = says in ap (λ (d : ℕ). mark_at w s p d k) (sym y) ∙ ap (λ (f : ℕ → Bool). f k) z

  new_marks_lem : (k : ℕ) → mark_at w t p c k ≡ upd m i v k
  new_marks_lem k = go (lt? k (chunks c)) (eq? k i)
    where
      pages : pages_in w t ≡ pages_in w s
      pages = pages_same w s t (base + i / 8) p (length-with_mark s base i v) (with_mark-outside s base i v) below here

      in_t : k < chunks c → mark_at w t p c k ≡ mark t base k
      in_t l = mark-low w t p c k l ∙ ap (λ (P : ℕ). mark t (map_base w P p c) k) pages

      go : (k < chunks c) ⊎ (chunks c ≤ k) → (k ≡ i) ⊎ (k ≢ i) → mark_at w t p c k ≡ upd m i v k
      go (inr l) (inl z) = absurd (omega arith)
      go (inr l) (inr d) = mark-past w t p c k l ∙ sym (upd_other m i v k d ∙ sym (marks_are k) ∙ mark-past w s p c k l)
      go (inl l) (inl z) = in_t l ∙ rw z (mark_same s base i v inside_slice ∙ sym (upd_same m i v))
      go (inl l) (inr d) = in_t l ∙ mark_other s base i v k d ∙ sym (mark-low w s p c k l) ∙ marks_are k ∙ sym (upd_other m i v k d)

  chunk-page : shown_page w t p ≡ slab c (upd m i v)
  chunk-page =
      let (x, y, z) = says in
      page-is w t p (rw (pages_same w s t (base + i / 8) p (length-with_mark s base i v) (with_mark-outside s base i v) below here) below)
      ∙ rw (chunk-links, x, y) (ap (slab c) (fun_ext new_marks_lem))

  pub chunk-put : shown_trial w t ≡ record { page = upd (shown_page w s) p (slab c (upd m i v)); flag = (shown_trial w s).flag }
  unfolding shown_trial
  chunk-put = λ k. record { page = fun_ext pages k; flag = fun_ext flags k }
    where
      pages : (q : ℕ) → shown_page w t q ≡ upd (shown_page w s) p (slab c (upd m i v)) q
      pages q = go (eq? q p)
        where
          go : (q ≡ p) ⊎ (q ≢ p) → shown_page w t q ≡ upd (shown_page w s) p (slab c (upd m i v)) q
          go (inl z) = rw z (chunk-page ∙ sym (upd_same (shown_page w s) p (slab c (upd m i v))))
          go (inr d) = pages-kept w s t (base + i / 8) p (length-with_mark s base i v) (with_mark-outside s base i v) below here q d ∙ sym (upd_other (shown_page w s) p (slab c (upd m i v)) q d)

      flags : (q : ℕ) → (shown_trial w t).flag q ≡ (shown_trial w s).flag q
      flags q = go (eq? q p)
        where
          go : (q ≡ p) ⊎ (q ≢ p) → (shown_trial w t).flag q ≡ (shown_trial w s).flag q
          go (inl z) = rw (z, chunk-page, was)
          go (inr d) = flags_kept w s t (base + i / 8) p (length-with_mark s base i v) (with_mark-outside s base i v) below here q d

-- ---- a run

module _ (w : ℕ) (s : List ℕ) (R : Room w s) (p n : ℕ) (was : shown_page w s p ≡ taken n) (v : Bool) where
  abbrev field : ℕ
  field = 8 * map_place w p

  abbrev u : List ℕ
  u = with_mark s field 0 v

  run-below : p < pages_in w s
  run-below = page_there w s p (taken n) was (λ z. never (cc))

  run_here : Of w (pages_in w s) (field + 0 / 8) p
  run_here = inl (omega arith, omega arith)

  field_inside : field + 0 / 8 < length s
  field_inside = omega (arith, R.some, run-below)

  run-page : shown_page w u p ≡ taken n
  run-page =
      let links = links_same w s u (field + 0 / 8) p (length-with_mark s field 0 v) (with_mark-outside s field 0 v) run-below run_here p run-below in
      let (x, y) = taken-kind _ _ _ (links_at w s p).kind n (sym (page-is w s p run-below) ∙ was) in
      page-is w u p (rw (pages_same w s u (field + 0 / 8) p (length-with_mark s field 0 v) (with_mark-outside s field 0 v) run-below run_here) run-below)
      ∙ rw (links, x, y) refl

  pub run_put : shown_trial w u ≡ record { page = shown_page w s; flag = upd (shown_trial w s).flag p v }
  unfolding shown_trial
  run_put = λ k. record { page = fun_ext pages k; flag = fun_ext flags k }
    where
      pages : (q : ℕ) → shown_page w u q ≡ shown_page w s q
      pages q = go (eq? q p)
        where
          go : (q ≡ p) ⊎ (q ≢ p) → shown_page w u q ≡ shown_page w s q
          go (inl z) = rw z (run-page ∙ sym was)
          go (inr d) = pages-kept w s u (field + 0 / 8) p (length-with_mark s field 0 v) (with_mark-outside s field 0 v) run-below run_here q d

      flags : (q : ℕ) → (shown_trial w u).flag q ≡ upd (shown_trial w s).flag p v q
      flags q = go (eq? q p)
        where
          go : (q ≡ p) ⊎ (q ≢ p) → (shown_trial w u).flag q ≡ upd (shown_trial w s).flag p v q
          go (inl z) = rw (z, run-page, mark_same s field 0 v field_inside, upd_same (shown_trial w s).flag p v)
          go (inr d) = flags_kept w s u (field + 0 / 8) p (length-with_mark s field 0 v) (with_mark-outside s field 0 v) run-below run_here q d ∙ sym (upd_other (shown_trial w s).flag p v q d)

-- ---- an offset that is granted

module _ (w : ℕ) (s : List ℕ) (R : Room w s) (ok : TrialOk (shown_page w s)) where
  chunk-low : (p c q : ℕ) (m : ℕ → Bool) → shown_page w s p ≡ slab c m → q < 4096 → starts_chunk c q ≡ true → q / chunk c < chunks c
  chunk-low p c q m e l b = let (z, o) = chunk_start c q b in chunk_index c (ok.in_range p c m e) (q / chunk c) (omega arith)

  put-at : (p q : ℕ) → q < 4096 → (x : Page) → shown_page w s p ≡ x → GrantedAt (shown_trial w s) p q x → shown_trial w (put_mark_at false w s p q x) ≡ tentative_at (shown_trial w s) p q x
  unfolding put_mark_at tentative_at shown_trial
  put-at p q l (slab c m) e (b, k) = chunk-put w s R p c (q / chunk c) m e (chunk-low p c q m e l b) false
  put-at p q l (taken n) e (f, d) = run_put w s R p n e true
  put-at p q l edge e x5 = elim x5 [ ]
  put-at p q l inside e x4 = elim x4 [ ]
  put-at p q l idle e x3 = elim x3 [ ]

  back_at : (p q : ℕ) → q < 4096 → (x : Page) → shown_page w s p ≡ x → GrantedAt (shown_trial w s) p q x →
      put_mark_at true w (put_mark_at false w s p q x) p q (shown_page w (put_mark_at false w s p q x) p) ≡ s
  unfolding put_mark_at shown_trial
  back_at p q l (slab c m) e (b, k) =
      let i : ℕ = q / chunk c in
      let low : i < chunks c = chunk-low p c q m e l b in
      let base : ℕ = map_base w (pages_in w s) p c in
      let cleared : List ℕ = with_mark s base i false in
      ap (λ (x : Page). put_mark_at true w cleared p q x) (chunk-page w s R p c i m e low false)
      ∙ ap (λ (P : ℕ). with_mark cleared (map_base w P p c) i true) (ap (page_count w) (length-with_mark s base i false))
      ∙ with_mark-back s base i false true R.bytes (sym (mark-low w s p c i low) ∙ marks_are w s R p c i m e low false i ∙ k)
  back_at p q l (taken n) e (f, d) =
      let flagged : List ℕ = with_mark s (8 * map_place w p) 0 true in
      ap (λ (x : Page). put_mark_at true w flagged p q x) (run-page w s R p n e true)
      ∙ with_mark-back s (8 * map_place w p) 0 true false R.bytes (rw e at f)
  back_at p q l edge e x5 = elim x5 [ ]
  back_at p q l inside e x4 = elim x4 [ ]
  back_at p q l idle e x3 = elim x3 [ ]

  pub put-shown : (off : ℕ) → verdict (tried (shown_trial w s) off) ≡ granted → shown_trial w (put_mark false w s off) ≡ tentative (shown_trial w s) off
  unfolding put_mark tentative tried shown_trial
  put-shown off g =
      put-at (off / 4096) (off % 4096) (omega arith) (shown_page w s (off / 4096)) refl (granted-at (shown_trial w s) (off / 4096) (off % 4096) (shown_page w s (off / 4096)) g)

  pub mark-back : (off : ℕ) → verdict (tried (shown_trial w s) off) ≡ granted → put_mark true w (put_mark false w s off) off ≡ s
  unfolding put_mark tried shown_trial
  mark-back off g =
      back_at (off / 4096) (off % 4096) (omega arith) (shown_page w s (off / 4096)) refl (granted-at (shown_trial w s) (off / 4096) (off % 4096) (shown_page w s (off / 4096)) g)

  kept : (base i : ℕ) (v : Bool) → Room w (with_mark s base i v)
  kept base i v = record { bytes = with_mark-bytes s base i v R.bytes; some = rw (length-with_mark s base i v) R.some }

  room_at : (p q : ℕ) (x : Page) → Room w (put_mark_at false w s p q x)
  unfolding put_mark_at
  room_at p q idle = R
  room_at p q (slab c m) = kept (map_base w (pages_in w s) p c) (q / chunk c) false
  room_at p q (taken n) = kept (8 * map_place w p) 0 true
  room_at p q inside = R
  room_at p q edge = R

  pub put_room : (off : ℕ) → Room w (put_mark false w s off)
  unfolding put_mark
  put_room off = room_at (off / 4096) (off % 4096) (shown_page w s (off / 4096))
