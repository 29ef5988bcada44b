-- The claims of `specs/Claim.antt`.
use mathlib.Core.Path.{◌≡◌, refl, sym, ◌∙◌, ap, subst}
use mathlib.Core.Logic.{◌⊎◌, inl, inr, ◌↔◌}
use mathlib.Core.Bool.{true}
use mathlib.Core.List.{List, [], ◌∷◌, ◌++◌}
use Prim.Native.Nat.{ℕ, zero, suc, ◌+◌, ◌≤◌, ◌<◌}
use native.Mathlib.Omega.{arith}
use lib.ListN.{length}
use borrow.Author.Tests.{lt-ltb, le-ltb, eq-eqb, ne_eqb}
use Rattle.base.specs.Lists.{Mem}
use Rattle.base.proofs.AllBelow.{pick_yes, pick_no}
use Rattle.base.proofs.Cases.{never, clash, lt?}
use Rattle.base.proofs.Lists.{mem_cast, mem_append, append_left, append_right}
use Rattle.words.specs.Word.{Bytes}
use Rattle.answers.specs.declared.Refusal.TheVariants.{TooLong}
use Rattle.model.specs.State.{Page, idle, slab, taken, inside, edge, Run, State, is_idle}
use Rattle.model.specs.Runs.{starts_at}
use Rattle.model.specs.WellFormed.{WellFormed}
use Rattle.model.specs.View.{Kind, vacant, class, run_of, within, View, kind_of, shown}
use Rattle.model.proofs.Runs.{run_path, Keyed, keyed, starts_at_lem}
use Rattle.model.proofs.Claim.{claims as model-claims}
use Rattle.rules.specs.Bytes.{broken_rule, read}
use Rattle.rules.specs.Judged.{Rule}
use Rattle.rules.proofs.Judged.{judged}
use Rattle.printing.specs.Text.{line}
use Rattle.script_replies.specs.Replies.{refusal_line}
use Rattle.drawing.proofs.Laws.{claims as laws-of}
use Rattle.report_lines.specs.Lines.{Span, free_span, taken_span}
use Rattle.report.specs.Report.{too_long, free_at, taken_at, spans_at, spans_below, spans, report_of, judged_text, printout}
use Rattle.report.specs.Claim.{first_of, RisingSpans, Listed, Claims}
use Rattle.report.proofs.Room.{fits}

-- ---- the runs of a view below a page

module _ (v : View) where
  -- those that start at a page
  at-free : (k p n j : ℕ) → Mem (free_span p n) (free_at k j) → (p ≡ k) × (j ≡ n) × (1 ≤ n)
  unfolding free_at
  at-free k p n zero m = absurd m
  at-free k p n (suc j) (inl e) = let z : n ≡ suc j = cc in (cc, sym z, omega (arith, z))
  at-free k p n (suc j) (inr m) = absurd m

  not_free : (k p n : ℕ) (x : Kind) → ¬ Mem (free_span p n) (taken_at k x)
  not_free k p n vacant m = m
  not_free k p n (class c) m = m
  not_free k p n (run_of j) (inl e) = never (cc)
  not_free k p n (run_of j) (inr m) = m
  not_free k p n within m = m

  at-taken : (k p n : ℕ) (x : Kind) → Mem (taken_span p n) (taken_at k x) → (p ≡ k) × (x ≡ run_of n)
  at-taken k p n vacant m = absurd m
  at-taken k p n (class c) m = absurd m
  at-taken k p n (run_of j) (inl e) = let z : n ≡ j = cc in (cc, ap run_of (sym z))
  at-taken k p n (run_of j) (inr m) = absurd m
  at-taken k p n within m = absurd m

  not_taken : (k p n j : ℕ) → ¬ Mem (taken_span p n) (free_at k j)
  unfolding free_at
  not_taken k p n zero m = m
  not_taken k p n (suc j) (inl e) = never (cc)
  not_taken k p n (suc j) (inr m) = m

  free_there : (p n k : ℕ) → Mem (free_span p n) (spans_below v k) → (p < k) × (v.free_run p ≡ n) × (1 ≤ n)
  unfolding spans_below spans_at
  free_there p n zero m = absurd m
  free_there p n (suc k) m = go (free_there p n k) (mem_append (free_span p n) (spans_below v k) _ m)
    where
      here : Mem (free_span p n) (free_at k (v.free_run k)) ⊎ Mem (free_span p n) (taken_at k (v.page k)) → (p < suc k) × (v.free_run p ≡ n) × (1 ≤ n)
      here (inl x) = let (e, d, l) = at-free k p n (v.free_run k) x in (omega (arith, e), ap v.free_run e ∙ d, l)
      here (inr x) = absurd (not_free k p n (v.page k) x)

      go : (Mem (free_span p n) (spans_below v k) → (p < k) × (v.free_run p ≡ n) × (1 ≤ n)) →
          Mem (free_span p n) (spans_below v k) ⊎ Mem (free_span p n) (free_at k (v.free_run k) ++ taken_at k (v.page k)) → (p < suc k) × (v.free_run p ≡ n) × (1 ≤ n)
      go ih (inl x) = let (l, e, h) = ih x in (omega (arith, l), e, h)
      go ih (inr x) = here (mem_append (free_span p n) (free_at k (v.free_run k)) _ x)

  taken_there : (p n k : ℕ) → Mem (taken_span p n) (spans_below v k) → (p < k) × (v.page p ≡ run_of n)
  unfolding spans_below spans_at
  taken_there p n zero m = absurd m
  taken_there p n (suc k) m = go (taken_there p n k) (mem_append (taken_span p n) (spans_below v k) _ m)
    where
      here : Mem (taken_span p n) (free_at k (v.free_run k)) ⊎ Mem (taken_span p n) (taken_at k (v.page k)) → (p < suc k) × (v.page p ≡ run_of n)
      here (inl x) = absurd (not_taken k p n (v.free_run k) x)
      here (inr x) = let (e, d) = at-taken k p n (v.page k) x in (omega (arith, e), ap v.page e ∙ d)

      go : (Mem (taken_span p n) (spans_below v k) → (p < k) × (v.page p ≡ run_of n)) →
          Mem (taken_span p n) (spans_below v k) ⊎ Mem (taken_span p n) (free_at k (v.free_run k) ++ taken_at k (v.page k)) → (p < suc k) × (v.page p ≡ run_of n)
      go ih (inl x) = let (l, e) = ih x in (omega (arith, l), e)
      go ih (inr x) = here (mem_append (taken_span p n) (free_at k (v.free_run k)) _ x)

  -- a run that starts at a page below k is there
  listed : (x : Span) (p k : ℕ) → p < k → Mem x (spans_at v p) → Mem x (spans_below v k)
  unfolding spans_below
  listed x p zero h m = absurd (omega arith)
  listed x p (suc k) h m = go (λ l. listed x p k l m) (lt? p k)
    where
      go : (p < k → Mem x (spans_below v k)) → (p < k) ⊎ (k ≤ p) → Mem x (spans_below v k ++ spans_at v k)
      go ih (inl l) = append_left x (spans_below v k) (spans_at v k) (ih l)
      go ih (inr l) =
          let e : p ≡ k = omega arith in
          append_right x (spans_below v k) (spans_at v k) (subst (λ (q : ℕ). Mem x (spans_at v q)) e m)

  free_here : (p n : ℕ) → v.free_run p ≡ n → 1 ≤ n → Mem (free_span p n) (spans_at v p)
  unfolding spans_at free_at
  free_here p zero e h = absurd (omega arith)
  free_here p (suc n) e h = rw e (inl refl)

  taken_here : (p n : ℕ) → v.page p ≡ run_of n → Mem (taken_span p n) (spans_at v p)
  unfolding spans_at
  taken_here p n e = append_right (taken_span p n) (free_at p (v.free_run p)) (taken_at p (v.page p)) (rw e (inl refl))

-- ---- in order

rise_from : (a b : ℕ) (xs : List Span) → b ≤ a → RisingSpans a xs → RisingSpans b xs
rise_from a b [] l r = tt
rise_from a b (x ∷ xs) l r = (omega (arith, r.0), r.1)

rise_append : (a b : ℕ) (xs ys : List Span) → a ≤ b → RisingSpans a xs → ((x : Span) → Mem x xs → first_of x < b) → RisingSpans b ys → RisingSpans a (xs ++ ys)
rise_append a b [] ys l r h q = rise_from b a ys l q
rise_append a b (x ∷ xs) ys l r h q = (r.0, rise_append (first_of x + 1) b xs ys (omega (arith, h x (inl refl))) r.1 (λ y m. h y (inr m)) q)

module _ (v : View) where
  below-low : (x : Span) (k : ℕ) → Mem x (spans_below v k) → first_of x < k
  below-low (free_span p n) k m = (free_there v p n k m).0
  below-low (taken_span p n) k m = (taken_there v p n k m).0

  -- a page does not start a free run and a taken one
  abbrev Apart : Type 0
  Apart = (p n : ℕ) → v.page p ≡ run_of n → v.free_run p ≡ 0

  at_rises : Apart → (p : ℕ) → RisingSpans p (spans_at v p)
  unfolding spans_at free_at
  at_rises apart p = go (v.free_run p) refl (v.page p) refl
    where
      go : (j : ℕ) → v.free_run p ≡ j → (x : Kind) → v.page p ≡ x → RisingSpans p (free_at p j ++ taken_at p x)
      go zero e vacant d = tt
      go zero e (class c) d = tt
      go zero e (run_of n) d = (omega arith, tt)
      go zero e within d = tt
      go (suc j) e vacant d = (omega arith, tt)
      go (suc j) e (class c) d = (omega arith, tt)
      go (suc j) e (run_of n) d = absurd (omega (arith, e, apart p n d))
      go (suc j) e within d = (omega arith, tt)

  below_rises : Apart → (k : ℕ) → RisingSpans 0 (spans_below v k)
  unfolding spans_below
  below_rises apart zero = tt
  below_rises apart (suc k) = rise_append 0 k (spans_below v k) (spans_at v k) (omega arith) (below_rises apart k) (λ x m. below-low x k m) (at_rises apart k)

-- ---- the runs of a state

kind-run : (x : Page) (n : ℕ) → kind_of x ≡ run_of n → x ≡ taken n
kind-run idle n e = absurd (never (cc))
kind-run (slab c m) n e = absurd (never (cc))
kind-run (taken k) n e = let z : k ≡ n = cc in ap taken z
kind-run inside n e = absurd (never (cc))
kind-run edge n e = absurd (never (cc))

module _ (m : State) (W : WellFormed m) where
  inside-pages : (p : ℕ) → (m.page p ≡ edge → ⊥) → p < m.size
  inside-pages p h = go (lt? p m.size)
    where
      go : (p < m.size) ⊎ (m.size ≤ p) → p < m.size
      go (inl l) = l
      go (inr l) = absurd (h (W.table.past p l))

  free-listed : (p n : ℕ) → Mem (free_span p n) (spans m) ↔ Mem (record { start = p; len = n }) m.runs
  unfolding spans shown Keyed
  free-listed p n = (λ x. there (free_there (shown m) p n m.size x) (keyed (λ r. r.start) p m.runs), back)
    where
      it : Run
      it = record { start = p; len = n }

      there : (p < m.size) × (starts_at p m.runs ≡ n) × (1 ≤ n) → Keyed (λ r. r.start) p m.runs (starts_at p m.runs) → Mem it m.runs
      there (l, e, h) (inl (x, y, a, b)) = mem_cast m.runs (sym (run_path {a = x} {b = it} a (b ∙ e))) y
      there (l, e, h) (inr (z, _)) = absurd (omega (arith, e, h, z))

      back : Mem it m.runs → Mem (free_span p n) (spans_below (shown m) m.size)
      back x =
          let some : 1 ≤ n = (W.free_runs.sound it x).some-page in
          let free : is_idle (m.page p) ≡ true = (W.free_runs.sound it x).all_free p (omega arith) (omega (arith, some)) in
          let low : p < m.size = inside-pages p (λ e. clash free (ap is_idle e)) in
          listed (shown m) (free_span p n) p m.size low (free_here (shown m) p n (starts_at_lem W.free_runs it x) some)

  taken-listed : (p n : ℕ) → Mem (taken_span p n) (spans m) ↔ (m.page p ≡ taken n)
  unfolding spans shown
  taken-listed p n = (λ x. kind-run (m.page p) n (taken_there (shown m) p n m.size x).1, back)
    where
      back : m.page p ≡ taken n → Mem (taken_span p n) (spans_below (shown m) m.size)
      back e =
          let low : p < m.size = inside-pages p (λ d. never (cc)) in
          listed (shown m) (taken_span p n) p m.size low (taken_here (shown m) p n (ap kind_of e))

  apart : Apart (shown m)
  unfolding shown Keyed
  apart p n e = go (keyed (λ r. r.start) p m.runs)
    where
      busy : m.page p ≡ taken n
      busy = kind-run (m.page p) n e

      go : Keyed (λ r. r.start) p m.runs (starts_at p m.runs) → starts_at p m.runs ≡ 0
      go (inl (x, y, a, b)) =
          let some : 1 ≤ x.len = (W.free_runs.sound x y).some-page in
          absurd (clash ((W.free_runs.sound x y).all_free p (omega (arith, a)) (omega (arith, a, some))) (ap is_idle busy))
      go (inr (z, _)) = z

  in_order : RisingSpans 0 (spans m)
  unfolding spans
  in_order = below_rises (shown m) apart m.size

all_listed : (image : List ℕ) → Bytes image → broken_rule 2 image ≡ 0 → Listed image
all_listed image b e =
    let m : State = read 2 image in
    let W : WellFormed m = ((laws-of 2 (omega arith) (omega arith) image b).sound-fits e).well in
    record {
      live = (model-claims.placing m W).listed;
      rising = (model-claims.placing m W).rising;
      free_runs = free-listed m W;
      taken_runs = taken-listed m W;
      in_order = in_order m W;
    }

-- ---- which of the three is printed

module _ (image : List ℕ) where
  long-refused : too_long ≤ length image → printout image ≡ refusal_line TooLong
  unfolding printout
  long-refused h = pick_no _ _ _ (le-ltb (length image) too_long h)

  module _ (h : length image < too_long) where
    short_judged : printout image ≡ judged_text image (broken_rule 2 image)
    unfolding printout
    short_judged = pick_yes _ _ _ (lt-ltb (length image) too_long h)

    rule_told : (k : ℕ) → 1 ≤ k → k ≤ 6 → ((j : ℕ) → 1 ≤ j → j < k → Rule 2 image j) → ¬ Rule 2 image k → printout image ≡ line [] k
    unfolding judged_text
    rule_told k l f before broken =
        let e : broken_rule 2 image ≡ k = ((judged 2 image).broken k l f).1 (before, broken) in
        short_judged ∙ ap (judged_text image) e ∙ pick_no _ _ _ (ne_eqb k 0 (λ z. absurd (omega (arith, l, z))))

    sound-reported : broken_rule 2 image ≡ 0 → printout image ≡ report_of (read 2 image)
    unfolding judged_text
    sound-reported e = short_judged ∙ pick_yes _ _ _ (eq-eqb (broken_rule 2 image) 0 e)

pub claims : Claims
claims = record { refused = long-refused; told = rule_told; reported = sound-reported; listed = all_listed; fits = fits }
