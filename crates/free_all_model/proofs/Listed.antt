-- On a well-formed state the frees of a list succeed exactly when a live block begins at each offset and none stands twice.
use mathlib.Core.Path.{◌≡◌, refl, sym, ap, ◌∙◌, subst}
use mathlib.Core.Logic.{◌⊎◌, inl, inr, ◌≢◌, ◌↔◌}
use mathlib.Core.Bool.{true}
use mathlib.Core.List.{List, [], ◌∷◌}
use Prim.Native.Nat.{ℕ, ◌*◌, ◌≤◌, ◌<◌}
use native.Mathlib.Omega.{arith}
use lib.ListN.{length}
use Rattle.base.specs.Lists.{Mem}
use Rattle.base.proofs.Cases.{never, lt?}
use Rattle.base.proofs.Count.{count_bound}
use Rattle.base.proofs.Pigeonhole.{length-count}
use Rattle.model.specs.State.{Page, State}
use Rattle.model.specs.WellFormed.{WellFormed}
use Rattle.model.specs.Calls.{Free, Answer, at, freed, no, step}
use Rattle.model.specs.Live.{Block, offset, extent, On, Live}
use Rattle.model.specs.Effects.{Strikes, FreeEffect, Effect}
use Rattle.model.specs.Ruling.{granted, verdict}
use Rattle.model.specs.Claim.{Kept}
use Rattle.model.proofs.Blocks.{on_page}
use Rattle.model.proofs.Claim.{claims}
use Rattle.free_all_model.specs.FreeAll.{Completion, done, stopped, completion_from, after_frees, whole_or_none, free_all}
use Rattle.free_all_model.specs.Claim.{AllGranted, Listed, OnWellFormed}
use Rattle.free_all_model.proofs.Singles.{done_granted, granted-done}

-- a granted free strikes out the block at its offset
pub struck : (f f' : ℕ → Page) (off : ℕ) (a : Answer) → FreeEffect off f a f' → verdict a ≡ granted → (n : ℕ) × Strikes f f' off n
unfolding FreeEffect
struck f f' off (at b) x g = absurd x
struck f f' off (freed n) x g = (n, x)
struck f f' off (no k) x g = absurd (never (cc))

-- ---- one free

module _ (s : State) (wf : WellFormed s) (off : ℕ) where
  abbrev K : Kept s (Effect (Free off)) (step s (Free off))
  K = claims.calls_keep s wf (Free off)

  struck_next : verdict (step s (Free off)).answer ≡ granted → (n : ℕ) × Strikes s.page (step s (Free off)).after.page off n
  unfolding Effect
  struck_next g = struck s.page (step s (Free off)).after.page off (step s (Free off)).answer K.effect g

  -- a free of a live block is granted
  live-granted : (e : Block) × Live s.page e × (offset e ≡ off) → verdict (step s (Free off)).answer ≡ granted
  live-granted (e, x, z) = ap verdict (subst (λ (a : ℕ). (step s (Free a)).answer ≡ freed (extent e)) z (claims.live-freed s wf e x))

-- ---- the whole list

pub frees_well : (s : State) → WellFormed s → (offs : List ℕ) → WellFormed (after_frees s offs)
unfolding after_frees
frees_well s wf [] = wf
frees_well s wf (off ∷ offs) = frees_well (step s (Free off)).after (claims.calls_keep s wf (Free off)).well offs

pub frees_size : (s : State) → WellFormed s → (offs : List ℕ) → (after_frees s offs).size ≡ s.size
unfolding after_frees
frees_size s wf [] = refl
frees_size s wf (off ∷ offs) =
    let K : Kept s (Effect (Free off)) (step s (Free off)) = claims.calls_keep s wf (Free off) in
    frees_size (step s (Free off)).after K.well offs ∙ K.size

-- what is left where all are granted
pub frees_left : (s : State) → WellFormed s → (offs : List ℕ) → AllGranted s offs →
    (e : Block) → Live (after_frees s offs).page e ↔ (Live s.page e × (¬ Mem (offset e) offs))
unfolding after_frees
frees_left s wf [] h e = (λ x. (x, λ m. m), λ (x, _). x)
frees_left s wf (off ∷ offs) (g, h) e =
    let (n, S) = struck_next s wf off g in
    let (there, back) = frees_left (step s (Free off)).after (K s wf off).well offs h e in (
      λ x. let (l, m) = there x in let (y, d) = S.gone e l in (y, apart d m),
      λ (x, m). back (S.kept e x (λ z. m (inl z)), λ z. m (inr z)),
    )
  where
    apart : offset e ≢ off → (¬ Mem (offset e) offs) → ¬ Mem (offset e) (off ∷ offs)
    apart d m (inl z) = d z
    apart d m (inr z) = m z

pub granted-listed : (s : State) → WellFormed s → (offs : List ℕ) → AllGranted s offs → Listed s offs
granted-listed s wf [] h = record { once = tt; live = λ off m. absurd m }
granted-listed s wf (off ∷ offs) (g, h) =
    let (n, S) = struck_next s wf off g in
    let rest : Listed (step s (Free off)).after offs = granted-listed (step s (Free off)).after (K s wf off).well offs h in
    record {
      once = (λ m. let (e, x, z) = rest.live off m in (S.gone e x).1 z, rest.once);
      live = λ a m. here n S rest a m;
    }
  where
    here : (n : ℕ) → Strikes s.page (step s (Free off)).after.page off n → Listed (step s (Free off)).after offs →
        (a : ℕ) → Mem a (off ∷ offs) → (e : Block) × Live s.page e × (offset e ≡ a)
    here n S rest a (inl z) = let (e, x, y, _) = S.was in (e, x, y ∙ sym z)
    here n S rest a (inr m) = let (e, x, y) = rest.live a m in (e, (S.gone e x).0, y)

pub listed-granted : (s : State) → WellFormed s → (offs : List ℕ) → Listed s offs → AllGranted s offs
listed-granted s wf [] L = tt
listed-granted s wf (off ∷ offs) L = let g = live-granted s wf off (L.live off (inl refl)) in (g, listed-granted (step s (Free off)).after (K s wf off).well offs (rest g))
  where
    rest : verdict (step s (Free off)).answer ≡ granted → Listed (step s (Free off)).after offs
    rest g =
        let (n, S) = struck_next s wf off g in
        record {
          once = L.once.1;
          live = λ a m. let (e, x, z) = L.live a (inr m) in (e, S.kept e x (λ y. L.once.0 (subst (λ (b : ℕ). Mem b offs) (sym z ∙ y) m)), z);
        }

-- ---- their number

-- a live block begins in the pages
live_in : (s : State) → WellFormed s → (e : Block) → Live s.page e → offset e < 4096 * s.size
unfolding Live On
live_in s wf e (q, x) = go (lt? q s.size)
  where
    go : (q < s.size) ⊎ (s.size ≤ q) → offset e < 4096 * s.size
    go (inl h) = let (a, b) = on_page (s.page q) (wf.table.each q) q e x in omega arith
    go (inr h) = absurd (rw (wf.table.past q h) at x)

listed-few : (s : State) → WellFormed s → (offs : List ℕ) → Listed s offs → length offs ≤ 4096 * s.size
listed-few s wf offs L =
    let some = length-count (λ (_ : ℕ). true) (4096 * s.size) offs L.once (λ a m. let (e, x, z) = L.live a m in (omega (arith, live_in s wf e x, z), refl)) in
    omega (arith, some, count_bound (λ (_ : ℕ). true) (4096 * s.size))

-- ---- the call

-- either of two states that a property holds of
one_of : (P : State → Type 0) (a : Completion) (t s : State) → P t → P s → P (whole_or_none a t s)
unfolding whole_or_none
one_of P done t s x y = x
one_of P (stopped k n) t s x y = y

whole_is : (a : Completion) (t s : State) → a ≡ done → t ≡ whole_or_none a t s
unfolding whole_or_none
whole_is done t s e = refl
whole_is (stopped k n) t s e = absurd (never (cc))

pub on_well_formed : (s : State) → WellFormed s → (offs : List ℕ) → OnWellFormed s offs
unfolding free_all
on_well_formed s wf offs = record {
  well = one_of WellFormed (completion_from s 0 offs) (after_frees s offs) s (frees_well s wf offs) wf;
  size = one_of (λ (t : State). t.size ≡ s.size) (completion_from s 0 offs) (after_frees s offs) s (frees_size s wf offs) refl;
  done-listed = (λ e. granted-listed s wf offs (done_granted s 0 offs e), λ L. granted-done s 0 offs (listed-granted s wf offs L));
  left = λ d e. subst (λ (t : State). Live t.page e ↔ (Live s.page e × (¬ Mem (offset e) offs))) (whole_is (completion_from s 0 offs) (after_frees s offs) s d)
      (frees_left s wf offs (done_granted s 0 offs d) e);
  few = λ e. listed-few s wf offs (granted-listed s wf offs (done_granted s 0 offs e));
}
