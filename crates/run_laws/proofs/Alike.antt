-- Pages that are no class pages count nothing in classes and have no map: what a state shows of them is the same whatever they are.
use mathlib.Core.Path.{◌≡◌, refl, sym, ap, ◌∙◌}
use mathlib.Core.Logic.{◌⊎◌, inl, inr}
use mathlib.Core.Bool.{Bool, true, false, and-false}
use mathlib.Core.List.{List}
use Prim.Native.Nat.{ℕ, zero, suc, ◌-◌, ◌*◌, ◌/◌, ◌%◌}
use lib.Dec.{leb, ltb}
use lib.ListN.{length, get_or}
use Rattle.base.specs.Tests.{pick}
use Rattle.base.specs.Count.{bit, count}
use Rattle.base.proofs.Cases.{clash}
use Rattle.base.proofs.Count.{sum_ext, sum-zero}
use Rattle.records.specs.Layout.{pages_from}
use Rattle.model.specs.Classes.{own, chunks, counted}
use Rattle.model.specs.State.{Page, idle, slab, taken, inside, edge, Run, State}
use Rattle.model.specs.View.{is_class, kind_of, used_on, used_of, total_in, shown}
use Rattle.rules.specs.Drawn.{map_of, state_image}
use Rattle.drawing.specs.Draw.{map_has, map_byte, in_map, mapped_byte, tab, mapped}

abbrev pub no_class : Page → Bool
no_class idle = true
no_class (slab c m) = false
no_class (taken n) = true
no_class inside = true
no_class edge = true

-- the pages are the same but for some that are no class pages before and after
abbrev pub Alike : (ℕ → Page) → (ℕ → Page) → Type 0
Alike page page' = (q : ℕ) → (page' q ≡ page q) ⊎ ((no_class (page q) ≡ true) × (no_class (page' q) ≡ true))

-- what is z for each page that is no class page
alike : {A : Type 0} {page page' : ℕ → Page} → Alike page page' → (f : Page → A) (z : A) → ((x : Page) → no_class x ≡ true → f x ≡ z) → (q : ℕ) → f (page' q) ≡ f (page q)
alike {A} {page} {page'} S f z h q = go (S q)
  where
    go : (page' q ≡ page q) ⊎ ((no_class (page q) ≡ true) × (no_class (page' q) ≡ true)) → f (page' q) ≡ f (page q)
    go (inl e) = ap f e
    go (inr (a, b)) = h (page' q) b ∙ sym (h (page q) a)

no-class : (c : ℕ) (x : Page) → no_class x ≡ true → is_class c (kind_of x) ≡ false
no-class c idle e = refl
no-class c (slab d m) e = absurd (clash e refl)
no-class c (taken n) e = refl
no-class c inside e = refl
no-class c edge e = refl

no-map : (x : Page) → no_class x ≡ true → map_of x ≡ 0
no-map idle e = refl
no-map (slab d m) e = absurd (clash e refl)
no-map (taken n) e = refl
no-map inside e = refl
no-map edge e = refl

no_byte : (j : ℕ) (x : Page) → no_class x ≡ true → map_has x j ≡ false
no_byte j idle e = refl
no_byte j (slab d m) e = absurd (clash e refl)
no_byte j (taken n) e = refl
no_byte j inside e = refl
no_byte j edge e = refl

no-used : (c : ℕ) (x : Page) → no_class x ≡ true → used_on c x ≡ 0
unfolding count
no-used c x e = sum-zero _ (chunks c) (λ i l. rw (no-class c x e, and-false (leb (own c) i)))

tab_same : {A : Type 0} (n : ℕ) (h k : ℕ → A) → ((i : ℕ) → h i ≡ k i) → tab n h ≡ tab n k
unfolding tab
tab_same zero h k e = refl
tab_same (suc n) h k e = rw (e zero, tab_same n (λ i. h (suc i)) (λ i. k (suc i)) (λ i. e (suc i)))

module _ (m : State) (page' : ℕ → Page) (rs' : List Run) (S : Alike m.page page') where
  -- the state with these pages and runs
  abbrev pub changed : State
  changed = record { size = m.size; page = page'; runs = rs'; lists = m.lists; tally = m.tally }

  pub same_used : (c : ℕ) → used_of changed c ≡ used_of m c
  unfolding used_of
  same_used c = sum_ext (λ p. used_on c (page' p)) (λ p. used_on c (m.page p)) m.size (λ p l. alike S (used_on c) 0 (no-used c) p)

  pub same_total : (c : ℕ) → (shown changed).total c ≡ (shown m).total c
  unfolding shown total_in count
  same_total c =
      ap (λ (n : ℕ). n * counted c)
      (sum_ext (λ p. bit (is_class c (kind_of (page' p)))) (λ p. bit (is_class c (kind_of (m.page p)))) m.size
      (λ p l. ap bit (alike S (λ x. is_class c (kind_of x)) false (no-class c) p)))

  pub same_class : (c : ℕ) → (state_image changed).class c ≡ (state_image m).class c
  unfolding state_image
  same_class c = rw (same_used c, same_total c)

  pub same_map : (q : ℕ) → (state_image changed).map q ≡ (state_image m).map q
  unfolding state_image
  same_map q = alike S map_of 0 no-map q

  pub same_mapped : (w : ℕ) (s : List ℕ) → mapped w changed s ≡ mapped w m s
  unfolding mapped mapped_byte in_map pick
  same_mapped w s = tab_same (length s) _ _ (λ i. byte i (pages_from w m.size))
    where
      byte : (i from : ℕ) → mapped_byte from changed s i ≡ mapped_byte from m s i
      byte i from =
          alike S (λ x. pick (pick (ltb i from) false (map_has x ((i - from) % 4096))) (map_byte x ((i - from) % 4096)) (get_or s i 0)) (get_or s i 0)
          (λ x e. rw (no_byte ((i - from) % 4096) x e) (side (ltb i from) x)) ((i - from) / 4096)
        where
          side : (t : Bool) (x : Page) → pick (pick t false false) (map_byte x ((i - from) % 4096)) (get_or s i 0) ≡ get_or s i 0
          side true x = refl
          side false x = refl
