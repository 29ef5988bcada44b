-- The live blocks of a table of pages determine it.
use mathlib.Core.Path.{◌≡◌, refl, sym, ap, ◌∙◌, fun_ext}
use mathlib.Core.Logic.{◌≢◌, ◌⊎◌, inl, inr}
use mathlib.Core.Bool.{Bool}
use Prim.Native.Nat.{ℕ, ◌≤◌, ◌<◌}
use native.Mathlib.Omega.{arith}
use Rattle.base.proofs.Cases.{never, lt?}
use Rattle.model.specs.State.{Page, idle, slab, taken, inside, edge, Tally, marks_of}
use Rattle.model.specs.WellFormed.{TallyOk}
use Rattle.model.specs.View.{vacant, class, run_of, within, View, kind_of, shown}
use Rattle.model.proofs.Alike.{same_blocks}
use Rattle.mending.specs.Remade.{remade}
use Rattle.mending.specs.Laws.{PagesDetermined}
use Rattle.mending.proofs.Remade.{remade-well}

-- what a page within the table shows determines it
module _ (y : Page) where
  pub vacant-page : kind_of y ≡ vacant → y ≢ edge → y ≡ idle
  vacant-page e n = go y refl
    where
      go : (z : Page) → y ≡ z → y ≡ idle
      go idle d = d
      go (slab c m) d = absurd (never (cc))
      go (taken x) d = absurd (never (cc))
      go inside d = absurd (never (cc))
      go edge d = absurd (n d)

  pub class_page_lem : (c : ℕ) (m : ℕ → Bool) → kind_of y ≡ class c → ((i : ℕ) → marks_of y i ≡ m i) → y ≡ slab c m
  class_page_lem c m e h = go y refl
    where
      go : (z : Page) → y ≡ z → y ≡ slab c m
      go idle d = absurd (never (cc))
      go (slab b k) d =
          let u : b ≡ c = cc in
          let w : k ≡ m = fun_ext (λ i. sym (ap (λ (z : Page). marks_of z i) d) ∙ h i) in
          rw (d, u, w)
      go (taken x) d = absurd (never (cc))
      go inside d = absurd (never (cc))
      go edge d = absurd (never (cc))

  pub run-page : (n : ℕ) → kind_of y ≡ run_of n → y ≡ taken n
  run-page n e = go y refl
    where
      go : (z : Page) → y ≡ z → y ≡ taken n
      go idle d = absurd (never (cc))
      go (slab c m) d = absurd (never (cc))
      go (taken x) d = let u : x ≡ n = cc in rw (d, u)
      go inside d = absurd (never (cc))
      go edge d = absurd (never (cc))

  pub inner-page : kind_of y ≡ within → y ≡ inside
  inner-page e = go y refl
    where
      go : (z : Page) → y ≡ z → y ≡ inside
      go idle d = absurd (never (cc))
      go (slab c m) d = absurd (never (cc))
      go (taken x) d = absurd (never (cc))
      go inside d = d
      go edge d = absurd (never (cc))

same_page : (x y : Page) → kind_of y ≡ kind_of x → ((i : ℕ) → marks_of y i ≡ marks_of x i) → x ≢ edge → y ≢ edge → y ≡ x
same_page idle y e h a b = vacant-page y e b
same_page (slab c m) y e h a b = class_page_lem y c m e h
same_page (taken n) y e h a b = run-page y n e
same_page inside y e h a b = inner-page y e
same_page edge y e h a b = absurd (a refl)

-- no tallies at all
abbrev none : ℕ → Tally
none c = record { reqs = 0; fails = 0 }

none_ok : (c : ℕ) → TallyOk c (none c)
none_ok c = record { reqs-fit = omega arith; fails-fit = omega arith; none-past = λ l. refl }

pub pages_determined : PagesDetermined
unfolding remade shown
pages_determined P f g some F G same = fun_ext each
  where
    view : shown (remade P f none) ≡ shown (remade P g none)
    view = (same_blocks (remade P f none) (remade P g none) (remade-well P f none some F none_ok) (remade-well P g none some G none_ok) refl same).view

    in_pages : (p : ℕ) → p < P → f p ≡ g p
    in_pages p l =
        same_page (g p) (f p) (ap (λ (v : View). v.page p) view) (λ i. ap (λ (v : View). v.mark p i) view)
        (λ z. absurd (omega (arith, G.ends p z))) (λ z. absurd (omega (arith, F.ends p z)))

    each : (p : ℕ) → f p ≡ g p
    each p = go (lt? p P)
      where
        go : (p < P) ⊎ (P ≤ p) → f p ≡ g p
        go (inl l) = in_pages p l
        go (inr l) = F.past p l ∙ sym (G.past p l)
