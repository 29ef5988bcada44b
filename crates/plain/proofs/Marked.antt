-- Class pages, class lists and tallies of a plain state.
use mathlib.Core.Path.{◌≡◌, refl, sym, ap, ◌∙◌, fun_ext}
use mathlib.Core.Logic.{◌⊎◌, inl, inr, ◌≢◌}
use mathlib.Core.Bool.{Bool, true, false, cond}
use mathlib.Core.List.{List, [], ◌∷◌}
use Prim.Native.Nat.{ℕ, ◌≤◌, ◌<◌}
use lib.Dec.{eqb}
use lib.ListN.{length, get_or, set}
use lib.Seq.{get_or-set_same, get_or-set_other}
use borrow.Author.Tests.{eq-eqb, ne_eqb, eqb-true}
use Rattle.base.specs.Tests.{pick}
use Rattle.base.specs.Functions.{upd}
use Rattle.base.specs.Lists.{Mem, NoDup, keep}
use Rattle.base.specs.Links.{others}
use Rattle.base.proofs.Cases.{never, lt?, eq?}
use Rattle.base.proofs.Functions.{upd_same, upd_other}
use Rattle.base.proofs.Lists.{keep-mem, mem-keep}
use Rattle.model.specs.Classes.{has_clear}
use Rattle.model.specs.State.{idle, slab, taken, inside}
use Rattle.model.specs.Calls.{asked, failed}
use Rattle.model.specs.WellFormed.{WellFormed}
use Rattle.model.proofs.Lists.{open_is}
use Rattle.plain.specs.declared.PageEntry.{PageEntry}
use Rattle.plain.specs.declared.Counts.{Counts}
use Rattle.plain.specs.Plain.{Plain, entry_at, mark_of, page_of, page_at, listed, list_of, no_counts, tally_of, read_plain}
use Rattle.plain.specs.Chunks.{asked_counts, failed_counts, count_ask, count_failure}
use Rattle.plain.proofs.Shown.{page_in, page-past}

-- ---- class pages

entry-slab : (e : PageEntry) (n m : ℕ → Bool) (c : ℕ) → page_of e n ≡ slab c m → (e.kind ≡ 1) × (e.class ≡ c) × (n ≡ m)
unfolding page_of pick
entry-slab e n m c = go (eqb e.kind 0) (eqb e.kind 1) refl (eqb e.kind 2)
  where
    go : (x y : Bool) → eqb e.kind 1 ≡ y → (z : Bool) → pick x idle (pick y (slab e.class n) (pick z (taken e.run) inside)) ≡ slab c m → (e.kind ≡ 1) × (e.class ≡ c) × (n ≡ m)
    go true y d z h = absurd (never (cc))
    go false true d z h = (eqb-true e.kind 1 d, cc, cc)
    go false false d true h = absurd (never (cc))
    go false false d false h = absurd (never (cc))

pub record ClassPage (s : Plain) (b : List ℕ) (p c : ℕ) : Type 0 where
  pub in_pool : p < 12
  pub kind : (entry_at s p).kind ≡ 1
  pub class : (entry_at s p).class ≡ c

pub class_page_lem : (s : Plain) (b : List ℕ) (p c : ℕ) (m : ℕ → Bool) → page_at s b p ≡ slab c m → ClassPage s b p c × (mark_of b p c ≡ m)
class_page_lem s b p c m h = go (lt? p 12)
  where
    go : (p < 12) ⊎ (12 ≤ p) → ClassPage s b p c × (mark_of b p c ≡ m)
    go (inl l) =
        let (k, d, n) = entry-slab (entry_at s p) (mark_of b p (entry_at s p).class) m c (sym (page_in s b p l) ∙ h) in
        (record { in_pool = l; kind = k; class = d }, ap (λ (x : ℕ). mark_of b p x) (sym d) ∙ n)
    go (inr l) = absurd (never (cc (page-past s b p l)))

pub class-shown : (s : Plain) (b : List ℕ) (p c : ℕ) → p < 12 → (entry_at s p).kind ≡ 1 → (entry_at s p).class ≡ c → page_at s b p ≡ slab c (mark_of b p c)
unfolding page_of pick
class-shown s b p c l k d = page_in s b p l ∙ rw (k, d)

-- a page whose entry and marks stay shows what it did
pub page-alike : (s t : Plain) (b b' : List ℕ) (p : ℕ) → entry_at t p ≡ entry_at s p → (p < 12 → (d : ℕ) → mark_of b' p d ≡ mark_of b p d) → page_at t b' p ≡ page_at s b p
page-alike s t b b' p e h = go (lt? p 12)
  where
    go : (p < 12) ⊎ (12 ≤ p) → page_at t b' p ≡ page_at s b p
    go (inl l) = page_in t b' p l ∙ rw (e, h l (entry_at s p).class) (sym (page_in s b p l))
    go (inr l) = page-past t b' p l ∙ sym (page-past s b p l)

-- ---- lists

pub keep-others : (p : ℕ) (l : List ℕ) → ¬ Mem p l → keep (others p) l ≡ l
unfolding others
keep-others p [] h = refl
keep-others p (x ∷ l) h = rw (ne_eqb x p (λ e. h (inl (sym e))), keep-others p l (λ m. h (inr m)))

pub keep-head : (p : ℕ) (l : List ℕ) → keep (others p) (p ∷ l) ≡ keep (others p) l
unfolding others
keep-head p l = rw (eq-eqb p p refl)

pub keep_swap : (q r : ℕ → Bool) (l : List ℕ) → keep q (keep r l) ≡ keep r (keep q l)
keep_swap q r [] = refl
keep_swap q r (x ∷ l) = go (q x) refl (r x) refl (keep_swap q r l)
  where
    go : (a : Bool) → q x ≡ a → (b : Bool) → r x ≡ b → keep q (keep r l) ≡ keep r (keep q l) → keep q (cond b (x ∷ keep r l) (keep r l)) ≡ keep r (cond a (x ∷ keep q l) (keep q l))
    go true e true f ih = rw (e, f, ih)
    go true e false f ih = rw f ih
    go false e true f ih = rw e ih
    go false e false f ih = ih

module _ (s : Plain) (b : List ℕ) (wf : WellFormed (read_plain s b)) where
  -- a page of the list of class c is a class page of c with a clear mark
  pub on_list_lem : (c p : ℕ) → Mem p (list_of s c) → ClassPage s b p c × (has_clear c (mark_of b p c) ≡ true)
  unfolding read_plain
  on_list_lem c p m =
      let (n, is, clear) = open_is c (page_at s b p) (wf.class-lists.holds c p m) in
      let (page, marks) = class_page_lem s b p c n is in
      (page, ap (has_clear c) marks ∙ clear)

  -- a listed page is on the list of its class
  pub on_own : (p : ℕ) → Mem p (listed s.ready) → Mem p (list_of s (entry_at s p).class)
  unfolding list_of
  on_own p m = mem-keep (λ j. eqb (entry_at s j).class (entry_at s p).class) p (listed s.ready) m (eq-eqb (entry_at s p).class (entry_at s p).class refl)

  pub list_listed : (c p : ℕ) → Mem p (list_of s c) → Mem p (listed s.ready)
  unfolding list_of
  list_listed c p m = (keep-mem (λ j. eqb (entry_at s j).class c) p (listed s.ready) m).0

  -- no page is listed twice
  pub listed-once : NoDup (listed s.ready)
  unfolding read_plain list_of
  listed-once = go (listed s.ready) wf.class-lists.once
    where
      rest : (q : ℕ → Bool) (x : ℕ) (l : List ℕ) → NoDup (keep q (x ∷ l)) → NoDup (keep q l)
      rest q x l d = side (q x) d
        where
          side : (t : Bool) → NoDup (cond t (x ∷ keep q l) (keep q l)) → NoDup (keep q l)
          side true d = d.1
          side false d = d

      once-at : (q : ℕ → Bool) (x : ℕ) (l : List ℕ) → q x ≡ true → NoDup (keep q (x ∷ l)) → ¬ Mem x l
      once-at q x l t d m = let e : NoDup (x ∷ keep q l) = rw t at d in e.0 (mem-keep q x l m t)

      go : (l : List ℕ) → ((c : ℕ) → NoDup (keep (λ p. eqb (entry_at s p).class c) l)) → NoDup l
      go [] h = tt
      go (x ∷ l) h = (
        once-at (λ p. eqb (entry_at s p).class (entry_at s x).class) x l (eq-eqb (entry_at s x).class (entry_at s x).class refl) (h (entry_at s x).class),
        go l (λ c. rest (λ p. eqb (entry_at s p).class c) x l (h c)),
      )

-- ---- tallies

module _ (t : List Counts) (c : ℕ) (in-range : c < length t) (x : Counts) where
  tally-set : (λ (d : ℕ). tally_of (get_or (set t c x) d no_counts)) ≡ upd (λ (d : ℕ). tally_of (get_or t d no_counts)) c (tally_of x)
  tally-set = fun_ext (λ d. go d (eq? d c))
    where
      go : (d : ℕ) → (d ≡ c) ⊎ (d ≢ c) → tally_of (get_or (set t c x) d no_counts) ≡ upd (λ (d : ℕ). tally_of (get_or t d no_counts)) c (tally_of x) d
      go d (inl e) = rw (e, get_or-set_same t c x no_counts in-range, upd_same (λ (d : ℕ). tally_of (get_or t d no_counts)) c (tally_of x))
      go d (inr n) = rw (get_or-set_other t c d x no_counts n, upd_other (λ (d : ℕ). tally_of (get_or t d no_counts)) c (tally_of x) d n)

pub ask-counted : (t : List Counts) (c : ℕ) → c < length t →
    (λ (d : ℕ). tally_of (get_or (count_ask t c) d no_counts)) ≡ upd (λ (d : ℕ). tally_of (get_or t d no_counts)) c (asked (tally_of (get_or t c no_counts)))
unfolding count_ask asked_counts asked tally_of
ask-counted t c h = tally-set t c h (asked_counts (get_or t c no_counts))

pub failure_counted : (t : List Counts) (c : ℕ) → c < length t →
    (λ (d : ℕ). tally_of (get_or (count_failure t c) d no_counts)) ≡ upd (λ (d : ℕ). tally_of (get_or t d no_counts)) c (failed (tally_of (get_or t c no_counts)))
unfolding count_failure failed_counts failed tally_of
failure_counted t c h = tally-set t c h (failed_counts (get_or t c no_counts))
