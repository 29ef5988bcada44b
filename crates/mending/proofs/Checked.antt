-- The checker says yes exactly when the copy is accepted.
use mathlib.Core.Path.{◌≡◌, refl, sym, ap, ◌∙◌, subst, fun_ext}
use mathlib.Core.Logic.{◌⊎◌, inl, inr, ◌↔◌}
use mathlib.Core.Bool.{Bool, true, false, false≢true}
use mathlib.Core.List.{List}
use Prim.Native.Nat.{ℕ, ◌+◌, ◌-◌, ◌*◌, ◌/◌, ◌≤◌, ◌<◌}
use native.Mathlib.Omega.{arith}
use lib.ListN.{length, get_or, get_or-eq_default}
use borrow.Author.Tests.{eqb-true, eq-eqb, ne_eqb}
use Rattle.base.specs.Tests.{pick}
use Rattle.base.proofs.Cases.{lt?}
use Rattle.base.proofs.AllBelow.{each_of, pick_yes, pick_no, all-at, at_all}
use Rattle.words.specs.Word.{Bytes}
use Rattle.records.specs.Layout.{pages_from, page_count}
use Rattle.records.specs.Page.{links_at}
use Rattle.answers.specs.Outcome.{Outcome, granted, refused}
use Rattle.answers.specs.declared.Refusal.{Refusal}
use Rattle.answers.specs.declared.Refusal.TheVariants.{NotSound, WrongLength, BeyondMending, OtherBlocks}
use Rattle.answers.proofs.Refusals.{number_counts}
use Rattle.model.specs.Classes.{chunks}
use Rattle.model.specs.State.{Page}
use Rattle.model.specs.Live.{Block, Live}
use Rattle.maps.proofs.Marks.{mark_byte}
use Rattle.rules.specs.Fields.{Fields, class, page_at}
use Rattle.rules.specs.Read.{read_fields}
use Rattle.rules.specs.Bytes.{pages_in, mark_at, image_of, fields_of, broken_rule, read}
use Rattle.rules.specs.Agree.{Bounds}
use Rattle.rules.proofs.Pages.{page-past}
use Rattle.drawing.proofs.Encoding.{mark-past, mark_paged, fields_bounds}
use Rattle.drawing.proofs.Laws.{none-broken}
use Rattle.rules.specs.Rules.{shape}
use Rattle.rules.specs.Plain.{Shape}
use Rattle.rules.proofs.Rule2.{rule2-shape}
use Rattle.rules.proofs.Shape.{shape-says}
use Rattle.mending.proofs.Determined.{pages_determined}
use Rattle.mending.specs.Mending.{shaped, table, SamePages, Accepted}
use Rattle.mending.specs.Checked.{same_page_at, same_byte_from, same_blocks, same_rest, compared, check_outcome}
use Rattle.mending.specs.Claim.{Refusals}
use Rattle.mending.proofs.Copy.{table_is, some-page}
use Rattle.mending.proofs.Restored.{read_table}
use Rattle.mending.proofs.Compared.{same_page, page_same}

module _ (w : ℕ) (wide : 2 ≤ w) (narrow : w ≤ 255) (s : List ℕ) (B : Bytes s) (t : List ℕ) (C : Bytes t) (lengths : length s ≡ length t) where
  abbrev n : ℕ
  n = pages_in w s

  abbrev v : Fields
  v = fields_of w s

  abbrev u : Fields
  u = fields_of w t

  pub pages-alike : pages_in w t ≡ n
  pages-alike = ap (page_count w) (sym lengths)

  -- ---- page bytes and the tail

  pub rest-says : same_rest w s t ≡ true → SamePages w s t
  unfolding same_rest same_byte_from SamePages
  rest-says e i h = go (lt? i (length s))
    where
      go : (i < length s) ⊎ (length s ≤ i) → get_or s i 0 ≡ get_or t i 0
      go (inl l) =
          let z : pages_from w n + (i - pages_from w n) ≡ i = omega arith in
          subst (λ (j : ℕ). get_or s j 0 ≡ get_or t j 0) z
          (eqb-true _ _ (all-at (same_byte_from (pages_from w n) s t) (length s - pages_from w n) e (i - pages_from w n) (omega arith)))
      go (inr l) = get_or-eq_default s 0 {n = i} l ∙ sym (get_or-eq_default t 0 {n = i} (omega arith))

  says-rest : SamePages w s t → same_rest w s t ≡ true
  unfolding same_rest same_byte_from SamePages
  says-rest h =
      at_all (same_byte_from (pages_from w n) s t) (length s - pages_from w n) (λ i l. eq-eqb _ _ (h (pages_from w n + i) (omega arith)))

  -- the marks of small classes lie in the pages
  pub paged : SamePages w s t → (p i : ℕ) → class v p ≡ class u p → class v p < 3 → v.mark p i ≡ u.mark p i
  unfolding fields_of image_of SamePages
  paged rest p i e a = go (lt? i (chunks (links_at w s p).class)) ∙ ap (λ (d : ℕ). mark_at w t p d i) e
    where
      go : (i < chunks (links_at w s p).class) ⊎ (chunks (links_at w s p).class ≤ i) → mark_at w s p (links_at w s p).class i ≡ mark_at w t p (links_at w s p).class i
      go (inl l) =
          mark_paged w s p (links_at w s p).class i a l
          ∙ mark_byte s t (pages_from w (pages_in w s) + 4096 * p) (pages_from w (pages_in w t) + 4096 * p) i
          (rw pages-alike (rest (pages_from w n + 4096 * p + i / 8) (omega arith)))
          ∙ sym (mark_paged w t p (links_at w s p).class i a l)
      go (inr l) = mark-past w s p (links_at w s p).class i l ∙ sym (mark-past w t p (links_at w s p).class i l)

  -- ---- the pages

  pub sound-shape : broken_rule w t ≡ 0 → shape u n ≡ true
  sound-shape sound =
      subst (λ (k : ℕ). shape u k ≡ true) pages-alike (rule2-shape u (pages_in w t) (none-broken w t sound).1.two)

  pub new-page : (read w t).page ≡ page_at u n
  unfolding read read_fields
  new-page = ap (page_at u) pages-alike

  module _ (good : shaped w s ≡ true) (sound : broken_rule w t ≡ 0) (rest : SamePages w s t) where
    old_shape : Shape v n
    unfolding shaped
    old_shape = shape-says v n (each_of _ good).1.0

    new-shape : Shape u n
    new-shape = shape-says u n (sound-shape sound)

    new_bounds : Bounds u n
    new_bounds = subst (Bounds u) pages-alike (fields_bounds w t C)

    blocks_say : same_blocks w s t ≡ true → (e : Block) → Live (table w s) e ↔ Live (read w t).page e
    unfolding same_blocks table
    blocks_say e b = rw (new-page, pages) (λ l. l, λ l. l)
      where
        each : (p : ℕ) → (p < n) ⊎ (n ≤ p) → page_at v n p ≡ page_at u n p
        each p (inl h) =
            same_page v u n old_shape new-shape (fields_bounds w s B) new_bounds (paged rest) p h (all-at (same_page_at v u) n e p h)
        each p (inr h) = page-past v n p h ∙ sym (page-past u n p h)

        pages : page_at v n ≡ page_at u n
        pages = fun_ext (λ p. each p (lt? p n))

    say_blocks : ((e : Block) → Live (table w s) e ↔ Live (read w t).page e) → same_blocks w s t ≡ true
    unfolding same_blocks table
    say_blocks same =
        at_all (same_page_at v u) n
        (λ p h.
        page_same v u n old_shape new-shape (fields_bounds w s B) new_bounds (paged rest) p h (ap (λ (f : ℕ → Page). f p) (pages ∙ new-page)))
      where
        pages : table w s ≡ (read w t).page
        pages =
            pages_determined n (table w s) (read w t).page (some-page w wide narrow s B good) (table_is w wide narrow s B good)
            (read_table w wide narrow s B t C lengths sound) same

-- ---- the answer

-- a test that leads to a grant
passes : (t : Bool) (x : Outcome) (r : Refusal) → (pick t x (refused r)).number ≡ 0 → (t ≡ true) × (x.number ≡ 0)
unfolding pick
passes true x r e = (refl, e)
passes false x r e = absurd (false≢true (sym (number_counts r) ∙ eq-eqb _ _ e))

-- a sound copy is granted or refused with 14
either : (w : ℕ) (s t : List ℕ) → ((compared w s t).number ≡ 0) ⊎ (compared w s t ≡ refused OtherBlocks)
unfolding compared pick
either w s t = go (same_rest w s t) (same_blocks w s t)
  where
    go : (a b : Bool) → ((pick a (pick b (granted 0) (refused OtherBlocks)) (refused OtherBlocks)).number ≡ 0)
        ⊎ (pick a (pick b (granted 0) (refused OtherBlocks)) (refused OtherBlocks) ≡ refused OtherBlocks)
    go true true = inl refl
    go true false = inr refl
    go false b = inr refl

module _ (w : ℕ) (wide : 2 ≤ w) (narrow : w ≤ 255) (s : List ℕ) (B : Bytes s) (t : List ℕ) (C : Bytes t) where
  yes : (check_outcome w s t).number ≡ 0 → Accepted w s t
  unfolding check_outcome compared
  yes e =
      let a = passes _ _ WrongLength e in
      let b = passes _ _ WrongLength a.1 in
      let c = passes _ _ BeyondMending b.1 in
      let d = passes _ _ NotSound c.1 in
      let f = passes _ _ OtherBlocks d.1 in
      let g = passes _ _ OtherBlocks f.1 in
      let l : length s ≡ length t = eqb-true _ _ a.0 in
      let sound : broken_rule w t ≡ 0 = eqb-true _ _ d.0 in
      let rest = rest-says w wide narrow s B t C l f.0 in
      record {
        lengths = l;
        editions = eqb-true _ _ b.0;
        good = c.0;
        sound = sound;
        blocks = blocks_say w wide narrow s B t C l c.0 sound rest g.0;
        pages = rest;
      }

  accepted : Accepted w s t → (check_outcome w s t).number ≡ 0
  unfolding check_outcome compared
  accepted A =
      ap (λ (o : Outcome). o.number)
      (pick_yes _ _ _ (eq-eqb _ _ A.lengths) ∙ pick_yes _ _ _ (eq-eqb _ _ A.editions) ∙ pick_yes _ _ _ A.good
      ∙ pick_yes _ _ _ (eq-eqb _ _ A.sound) ∙ pick_yes _ _ _ (says-rest w wide narrow s B t C A.lengths A.pages)
      ∙ pick_yes _ _ _ (say_blocks w wide narrow s B t C A.lengths A.good A.sound A.pages A.blocks))

  pub refusals : Refusals w s t
  refusals = record {
    other_length = λ d. unfold check_outcome in pick_no _ _ _ (ne_eqb _ _ d);
    other_edition = λ l d. unfold check_outcome in (pick_yes _ _ _ (eq-eqb _ _ l) ∙ pick_no _ _ _ (ne_eqb _ _ d));
    beyond = λ l e f. unfold check_outcome in (pick_yes _ _ _ (eq-eqb _ _ l) ∙ pick_yes _ _ _ (eq-eqb _ _ e) ∙ pick_no _ _ _ f);
    unsound = λ l e g d.
        unfold check_outcome in (pick_yes _ _ _ (eq-eqb _ _ l) ∙ pick_yes _ _ _ (eq-eqb _ _ e) ∙ pick_yes _ _ _ g ∙ pick_no _ _ _ (ne_eqb _ _ d));
    other_blocks = other;
  }
    where
      other : length s ≡ length t → get_or s 0 0 ≡ get_or t 0 0 → shaped w s ≡ true → broken_rule w t ≡ 0 → ¬ Accepted w s t → check_outcome w s t ≡ refused OtherBlocks
      other l e g sound out = go (either w s t)
        where
          reached : check_outcome w s t ≡ compared w s t
          reached =
              unfold check_outcome in
              (pick_yes _ _ _ (eq-eqb _ _ l) ∙ pick_yes _ _ _ (eq-eqb _ _ e) ∙ pick_yes _ _ _ g ∙ pick_yes _ _ _ (eq-eqb _ _ sound))

          go : ((compared w s t).number ≡ 0) ⊎ (compared w s t ≡ refused OtherBlocks) → check_outcome w s t ≡ refused OtherBlocks
          go (inl z) = absurd (out (yes (ap (λ (o : Outcome). o.number) reached ∙ z)))
          go (inr z) = reached ∙ z

  pub checked_iff : ((check_outcome w s t).number ≡ 0) ↔ Accepted w s t
  checked_iff = (yes, accepted)
