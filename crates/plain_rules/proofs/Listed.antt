-- Rule 4: the tests of the list of ready pages hold exactly when each class list holds its pages with a free chunk once.
use mathlib.Core.Path.{◌≡◌, refl, sym, ap, ◌∙◌}
use mathlib.Core.Logic.{◌⊎◌, inl, inr, ◌≢◌}
use mathlib.Core.Bool.{Bool, true, false}
use mathlib.Core.List.{List, [], ◌∷◌}
use Prim.Native.Nat.{ℕ, ◌≤◌, ◌<◌}
use native.Mathlib.Omega.{arith}
use lib.Dec.{eqb, ltb}
use borrow.Author.Tests.{lt-ltb, le-ltb, eq-eqb, ltb-true, eqb-true}
use Rattle.base.specs.Count.{bit}
use Rattle.base.specs.Lists.{Mem, NoDup}
use Rattle.base.proofs.Tests.{both_true}
use Rattle.base.proofs.AllBelow.{pick-both}
use Rattle.base.proofs.Cases.{clash, lt?, eq?, decided}
use Rattle.base.proofs.Lists.{mem_cast, keep-mem, mem-keep, keep-once}
use Rattle.model.specs.Classes.{has_clear}
use Rattle.model.specs.State.{is_open as opens}
use Rattle.model.specs.WellFormed.{ListsOk, WellFormed}
use Rattle.model.proofs.Lists.{open_is, open_slab}
use Rattle.plain.specs.Plain.{Plain, entry_at, mark_of, page_at, listed, list_of, read_plain}
use Rattle.plain.proofs.Marked.{ClassPage, class_page_lem, class-shown, on_list_lem, on_own, list_listed, listed-once}
use Rattle.plain_rules.specs.Rules.{how_many, is_open, is_page, list_ok}
use Rattle.plain_rules.proofs.Many.{many_none, many_tail, many_head, many_skip, mem_many, many_mem}

-- ---- the listed pages of a table

page-is : (p x : ℕ) → is_page p x ≡ true → x ≡ p
unfolding is_page
page-is p x h = eqb-true x p h

is_page_lem : (p x : ℕ) → x ≡ p → is_page p x ≡ true
unfolding is_page
is_page_lem p x e = eq-eqb x p e

listed-mem : (p : ℕ) (t : List ℕ) → Mem p (listed t) → Mem p t × (p < 12)
unfolding listed
listed-mem p t m = let (a, l) = keep-mem (λ x. ltb x 12) p t m in (a, ltb-true p 12 l)

mem-listed : (p : ℕ) (t : List ℕ) → Mem p t → p < 12 → Mem p (listed t)
unfolding listed
mem-listed p t m l = mem-keep (λ x. ltb x 12) p t m (lt-ltb p 12 l)

listed_in : (x : ℕ) (t : List ℕ) → x < 12 → listed (x ∷ t) ≡ x ∷ listed t
unfolding listed
listed_in x t h = rw (lt-ltb x 12 h)

listed_out : (x : ℕ) (t : List ℕ) → 12 ≤ x → listed (x ∷ t) ≡ listed t
unfolding listed
listed_out x t h = rw (le-ltb x 12 h)

-- listed at most once each
once-listed : (t : List ℕ) → ((p : ℕ) → p < 12 → how_many (is_page p) t ≤ 1) → NoDup (listed t)
once-listed [] le = unfold listed in tt
once-listed (x ∷ t) le = go (lt? x 12) (once-listed t (λ p l. omega (arith, le p l, many_tail (is_page p) x t)))
  where
    go : (x < 12) ⊎ (12 ≤ x) → NoDup (listed t) → NoDup (listed (x ∷ t))
    go (inl h) rest = rw (listed_in x t h) (apart, rest)
      where
        apart : ¬ Mem x (listed t)
        apart m =
            let k : 1 ≤ how_many (is_page x) t = mem_many (is_page x) x t (listed-mem x t m).0 (is_page_lem x x refl) in
            omega (arith, le x h, many_head (is_page x) x t (is_page_lem x x refl))
    go (inr h) rest = rw (listed_out x t h) rest

tail-once : (x : ℕ) (t : List ℕ) → NoDup (listed (x ∷ t)) → NoDup (listed t)
tail-once x t d = side (lt? x 12)
  where
    side : (x < 12) ⊎ (12 ≤ x) → NoDup (listed t)
    side (inl h) = let k : NoDup (x ∷ listed t) = rw (listed_in x t h) at d in k.1
    side (inr h) = rw (listed_out x t h) at d

listed-few : (p : ℕ) → p < 12 → (t : List ℕ) → NoDup (listed t) → how_many (is_page p) t ≤ 1
listed-few p l [] d = unfold how_many in omega arith
listed-few p l (x ∷ t) d = go (eq? x p) (listed-few p l t (tail-once x t d))
  where
    go : (x ≡ p) ⊎ (x ≢ p) → how_many (is_page p) t ≤ 1 → how_many (is_page p) (x ∷ t) ≤ 1
    go (inl e) rest = omega (arith, many_head (is_page p) x t (is_page_lem p x e), many_none (is_page p) t none)
      where
        none : (y : ℕ) → Mem y t → is_page p y ≡ false
        none y m = decided (is_page p y) (λ z.
            let k : NoDup (x ∷ listed t) = rw (listed_in x t (omega arith)) at d in
            k.0 (mem_cast (listed t) e (mem-listed p t (mem_cast t (sym (page-is p y z)) m) l)))
    go (inr n) rest = omega (arith, many_skip (is_page p) x t (decided (is_page p x) (λ z. n (page-is p x z))))

-- ---- pages with a free chunk

module _ (s : Plain) (b : List ℕ) where
  open_there : (p : ℕ) → is_open b p (entry_at s p) ≡ true → ((entry_at s p).kind ≡ 1) × (has_clear (entry_at s p).class (mark_of b p (entry_at s p).class) ≡ true)
  unfolding is_open
  open_there p h =
      let x = both_true (eqb (entry_at s p).kind 1) (has_clear (entry_at s p).class (mark_of b p (entry_at s p).class)) h in
      (eqb-true (entry_at s p).kind 1 x.0, x.1)

  open_back : (p c : ℕ) → (entry_at s p).kind ≡ 1 → (entry_at s p).class ≡ c → has_clear c (mark_of b p c) ≡ true → is_open b p (entry_at s p) ≡ true
  unfolding is_open
  open_back p c k d h = pick-both _ _ (eq-eqb (entry_at s p).kind 1 k) (rw d h)

  list_mem : (c p : ℕ) → Mem p (list_of s c) → Mem p (listed s.ready) × ((entry_at s p).class ≡ c)
  unfolding list_of
  list_mem c p m = let (n, d) = keep-mem (λ j. eqb (entry_at s j).class c) p (listed s.ready) m in (n, eqb-true (entry_at s p).class c d)

  mem_list : (c p : ℕ) → Mem p (listed s.ready) → (entry_at s p).class ≡ c → Mem p (list_of s c)
  unfolding list_of
  mem_list c p m d = mem-keep (λ j. eqb (entry_at s j).class c) p (listed s.ready) m (eq-eqb (entry_at s p).class c d)

  module _ (all : (p : ℕ) → p < 12 → list_ok b s.ready p (entry_at s p) ≡ true) where
    listings : (p : ℕ) → p < 12 → how_many (is_page p) s.ready ≡ bit (is_open b p (entry_at s p))
    unfolding list_ok
    listings p l = eqb-true (how_many (is_page p) s.ready) (bit (is_open b p (entry_at s p))) (all p l)

    few : (p : ℕ) → p < 12 → how_many (is_page p) s.ready ≤ 1
    few p l = rw (listings p l) (small (is_open b p (entry_at s p)))
      where
        small : (x : Bool) → bit x ≤ 1
        small true = omega arith
        small false = omega arith

    pub lists_there : ListsOk (page_at s b) (list_of s)
    lists_there = record {
      once = λ c. unfold list_of in keep-once (λ p. eqb (entry_at s p).class c) (listed s.ready) (once-listed s.ready few);
      holds = holds;
      all = every;
    }
      where
        holds : (c p : ℕ) → Mem p (list_of s c) → opens c (page_at s b p) ≡ true
        holds c p m =
            let (n, d) = list_mem c p m in
            let (k, l) = listed-mem p s.ready n in
            shows l d (mem_many (is_page p) p s.ready k (is_page_lem p p refl))
          where
            is : p < 12 → 1 ≤ how_many (is_page p) s.ready → (x : Bool) → is_open b p (entry_at s p) ≡ x → is_open b p (entry_at s p) ≡ true
            is l h true e = e
            is l h false e = let z : how_many (is_page p) s.ready ≡ bit false = listings p l ∙ ap bit e in absurd (omega arith)

            shows : p < 12 → (entry_at s p).class ≡ c → 1 ≤ how_many (is_page p) s.ready → opens c (page_at s b p) ≡ true
            shows l d h =
                let (k, clear) = open_there p (is l h (is_open b p (entry_at s p)) refl) in
                ap (opens c) (class-shown s b p c l k d) ∙ open_slab c (mark_of b p c) ∙ (rw d at clear)

        every : (c p : ℕ) → opens c (page_at s b p) ≡ true → Mem p (list_of s c)
        every c p h =
            let (m, z, clear) = open_is c (page_at s b p) h in
            let (P, marks) = class_page_lem s b p c m z in
            listed_so P (ap (has_clear c) marks ∙ clear)
          where
            listed_so : ClassPage s b p c → has_clear c (mark_of b p c) ≡ true → Mem p (list_of s c)
            listed_so P clear =
                let one : how_many (is_page p) s.ready ≡ bit true = listings p P.in_pool ∙ ap bit (open_back p c P.kind P.class clear) in
                let (x, m, e) = many_mem (is_page p) s.ready (omega arith) in
                mem_list c p (mem-listed p s.ready (mem_cast s.ready (sym (page-is p x e)) m) P.in_pool) P.class

  pub lists_back : WellFormed (read_plain s b) → (p : ℕ) → p < 12 → list_ok b s.ready p (entry_at s p) ≡ true
  unfolding list_ok
  lists_back wf p l = eq-eqb (how_many (is_page p) s.ready) (bit (is_open b p (entry_at s p))) (go (is_open b p (entry_at s p)) refl)
    where
      go : (x : Bool) → is_open b p (entry_at s p) ≡ x → how_many (is_page p) s.ready ≡ bit (is_open b p (entry_at s p))
      go true e = rw e (omega (arith, listed-few p l s.ready (listed-once s b wf), there (open_there p e)))
        where
          there : ((entry_at s p).kind ≡ 1) × (has_clear (entry_at s p).class (mark_of b p (entry_at s p).class) ≡ true) → 1 ≤ how_many (is_page p) s.ready
          there (k, clear) =
              let o : opens (entry_at s p).class (page_at s b p) ≡ true = ap (opens (entry_at s p).class) (class-shown s b p (entry_at s p).class l k refl) ∙ open_slab (entry_at s p).class (mark_of b p (entry_at s p).class) ∙ clear in
              mem_many (is_page p) p s.ready (listed-mem p s.ready (list_listed s b wf (entry_at s p).class p (on_its o))).0 (is_page_lem p p refl)
            where
              on_its : opens (entry_at s p).class (page_at s b p) ≡ true → Mem p (list_of s (entry_at s p).class)
              on_its o = unfold read_plain in wf.class-lists.all (entry_at s p).class p o
      go false e = rw e (many_none (is_page p) s.ready none)
        where
          none : (x : ℕ) → Mem x s.ready → is_page p x ≡ false
          none x m = decided (is_page p x) (λ z. off (mem-listed p s.ready (mem_cast s.ready (sym (page-is p x z)) m) l))
            where
              off : Mem p (listed s.ready) → ⊥
              off n =
                  let (P, clear) = on_list_lem s b wf (entry_at s p).class p (on_own s b wf p n) in
                  clash (open_back p (entry_at s p).class P.kind refl clear) e
