-- Format draws a fresh pool.
use mathlib.Core.Path.{◌≡◌, refl, sym, ap, ◌∙◌}
use mathlib.Core.Logic.{◌⊎◌, inl, inr, ◌≢◌}
use mathlib.Core.Bool.{Bool, true, false, cond, and-false}
use mathlib.Core.List.{List, [], ◌∷◌}
use Prim.Native.Nat.{ℕ, zero, suc, ◌+◌, ◌-◌, ◌*◌, ◌≤◌, ◌<◌}
use native.Mathlib.Nat.{sub_self, zero-mul}
use native.Mathlib.Omega.{arith}
use lib.Dec.{leb, ltb}
use lib.ListN.{length}
use borrow.Author.Tests.{lt-ltb, le-ltb, lt-leb, eq-eqb, ne_eqb}
use Rattle.base.specs.Tests.{pick}
use Rattle.base.specs.Count.{sum, count}
use Rattle.base.specs.Functions.{upd}
use Rattle.base.proofs.Cases.{eq?, clash}
use Rattle.base.proofs.Count.{sum-zero}
use Rattle.base.proofs.Functions.{upd_same, upd_other}
use Rattle.records.specs.Layout.{no_page}
use Rattle.records.specs.declared.Links.{Links}
use Rattle.model.specs.Classes.{own, counted}
use Rattle.model.specs.State.{idle, edge, Run}
use Rattle.model.specs.Calls.{fresh}
use Rattle.model.specs.View.{total_in, used_of, shown}
use Rattle.image.specs.Image.{paint, with_peaks, Same}
use Rattle.image.proofs.Paint.{paint_ext}
use Rattle.format.specs.Format.{shortest, too_long, inside_free, first_free, fresh_image, formatted}
use Rattle.rules.specs.Rules.{free_in}
use Rattle.rules.specs.Drawn.{back_link, free_links, class_record, state_image}
use Rattle.rules.specs.Bytes.{pages_in}
use Rattle.drawing.specs.Draw.{map_has, draw}
use Rattle.drawing.proofs.Mapped.{mapped-is}

count-all : (q : ℕ → Bool) (n : ℕ) → ((j : ℕ) → j < n → q j ≡ true) → count q n ≡ n
unfolding count sum
count-all q zero e = refl
count-all q (suc n) e = let ih = count-all q n (λ j l. e j (omega arith)) in rw (e n (omega arith)) (omega arith)

count_none : (q : ℕ → Bool) (n : ℕ) → ((j : ℕ) → j < n → q j ≡ false) → count q n ≡ 0
unfolding count
count_none q n e = sum-zero _ n (λ j l. rw (e j l))

pub fresh-used : (P c : ℕ) → used_of (fresh P) c ≡ 0
unfolding used_of fresh
fresh-used P c = sum-zero _ P (λ p h. rw (lt-ltb p P h) (count_none _ _ (λ i l. and-false (leb (own c) i))))

module _ (P : ℕ) where
  page_in : (p : ℕ) → p < P → (fresh P).page p ≡ idle
  unfolding fresh
  page_in p h = rw (lt-ltb p P h)

  no-maps : (p j : ℕ) → map_has ((fresh P).page p) j ≡ false
  unfolding fresh
  no-maps p j = go (ltb p P)
    where
      go : (t : Bool) → map_has (cond t idle edge) j ≡ false
      go true = refl
      go false = refl

  -- one run of P pages
  abbrev run_list : List Run
  run_list = record { start = 0; len = P } ∷ []

  module _ (some : 1 ≤ P) where
    free_links_lem : (p : ℕ) → (fresh_image P).links p ≡ free_links run_list p
    unfolding fresh_image free_links back_link pick
    free_links_lem p = go (eq? p 0) (eq? p (P - 1))
      where
        inner : ℕ → Links
        inner = upd (λ q. inside_free no_page) (P - 1) (inside_free 0)

        go : (p ≡ 0) ⊎ (p ≢ 0) → (p ≡ P - 1) ⊎ (p ≢ P - 1) → (fresh_image P).links p ≡ free_links run_list p
        go (inl a) b = rw (a, upd_same inner 0 (first_free P), ne_eqb P 0 (λ z. omega arith))
        go (inr a) (inl b) =
            let e : p + 1 ≡ P = omega arith in
            rw (upd_other inner 0 (first_free P) p a, ne_eqb 0 p (λ z. a (sym z)), e, eq-eqb (0 + P) P (omega arith), ne_eqb P 0 (λ z. omega arith), sub_self P, b)
            (upd_same (λ q. inside_free no_page) (P - 1) (inside_free 0))
        go (inr a) (inr b) =
            rw (upd_other inner 0 (first_free P) p a, ne_eqb 0 p (λ z. a (sym z)), ne_eqb (0 + P) (p + 1) (λ z. omega arith))
            (upd_other (λ q. inside_free no_page) (P - 1) (inside_free 0) p b)

    image-fresh : Same P (fresh_image P) (state_image (fresh P))
    unfolding state_image fresh_image
    image-fresh = record {
      free_pages = unfold fresh free_in in sym (count-all _ P (λ p h. rw (lt-ltb p P h)));
      first_run = unfold fresh in refl;
      class = λ c h i. unfold fresh in class_record no_page (sym (fresh-used P c) i) (sym (none-total c) i) ((fresh P).tally c);
      map = λ p h. rw (page_in p h);
      links = λ p h. rw (page_in p h) (unfold fresh in free_links_lem p);
    }
      where
        none-total : (c : ℕ) → (shown (fresh P)).total c ≡ 0
        none-total c =
            unfold shown total_in fresh in
            ap (λ (n : ℕ). n * counted c) (count_none _ P (λ p h. rw (lt-ltb p P h))) ∙ zero-mul (counted c)

    drawn_fresh : (w : ℕ) (s : List ℕ) → paint w P (fresh_image P) s ≡ draw w s (fresh P)
    unfolding draw fresh
    drawn_fresh w s =
        rw (← mapped-is w (fresh P) s s refl (λ i f. refl) (λ p j l t. absurd (clash t (no-maps p j)))) (paint_ext w P (fresh_image P) (state_image (fresh P)) s image-fresh)

-- a slice of an accepted length becomes the drawing of a fresh pool
pub formatted_drawn : (w : ℕ) (s : List ℕ) → shortest w ≤ length s → length s < too_long w → formatted w s ≡ draw w (with_peaks w (λ c. 0) s) (fresh (pages_in w s))
unfolding formatted pick
formatted_drawn w s some most =
    rw (le-ltb (length s) (shortest w) some, lt-leb (too_long w) (length s) most) (drawn_fresh (pages_in w s) (omega arith) w (with_peaks w (λ c. 0) s))
