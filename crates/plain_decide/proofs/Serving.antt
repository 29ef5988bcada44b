-- The public calls are the model's.
use mathlib.Core.Path.{◌≡◌, refl, sym, ap, ◌∙◌}
use mathlib.Core.Logic.{◌⊎◌, inl, inr}
use mathlib.Core.Bool.{Bool, true, false}
use mathlib.Core.List.{List}
use Prim.Native.Nat.{ℕ, ◌≤◌, ◌<◌}
use native.Mathlib.Omega.{arith}
use lib.Dec.{eqb, ltb}
use lib.ListN.{length, get_or}
use borrow.Author.Tests.{eq-eqb, eqb-true, lt-ltb, le-ltb}
use Rattle.base.specs.Tests.{pick}
use Rattle.base.specs.Count.{count}
use Rattle.base.proofs.Cases.{lt?, clash}
use Rattle.base.proofs.AllBelow.{pick_yes, pick_no}
use Rattle.answers.specs.Outcome.{number_of}
use Rattle.answers.specs.declared.Refusal.TheVariants.{NotSound, TableTooShort}
use Rattle.model.specs.State.{State, is_idle}
use Rattle.model.specs.View.{used_of, shown}
use Rattle.model.specs.Calls.{Call, Alloc, Free, Answer, at, freed, no, step, alloc, free}
use Rattle.model.specs.WellFormed.{WellFormed}
use Rattle.model.proofs.Claim.{claims}
use Rattle.demands.specs.Calls.{outcome}
use Rattle.plain.specs.Plain.{Plain, Served, Shaped, entry_at, free_entry, page_at, read_plain}
use Rattle.plain.specs.Pages.{refused}
use Rattle.plain.specs.Engine.{alloc_answer, free_answer, plain_alloc, plain_free}
use Rattle.plain.proofs.Whole.{alloc_met}
use Rattle.plain.proofs.Freed.{free_met}
use Rattle.plain.proofs.Loops.{get_d_past, length-remade}
use Rattle.plain.proofs.Shapes.{Tables, tables-alloc, tables-free, bytes-alloc, bytes-free}
use Rattle.plain_rules.specs.Counts.{recounted}
use Rattle.plain_rules.specs.Rules.{is_sound}
use Rattle.plain_rules.specs.Sound.{Tallied, Sound}
use Rattle.plain_rules.proofs.Counted.{recount_shown, recount_free, recount_used, recount_total}
use Rattle.plain_rules.proofs.Judged.{sound_passes, judged}
use Rattle.plain_decide.specs.Calls.{outcome_of, Serves}
use Rattle.plain_decide.specs.Mirror.{served_by, bytes_by, recounted_in, judged_call, judged_bytes, called_on, called_bytes}
use Rattle.plain_decide.proofs.Tidied.{Kinds, Tidy, tidy_alloc, tidy_free}

-- ---- what an answer says

outcome-alloc : (r : Served) (a : Answer) → Tidy r → alloc_answer r ≡ a → outcome_of r ≡ outcome a
unfolding alloc_answer pick
outcome-alloc r a t e = go (eqb r.number 0) refl ∙ ap outcome e
  where
    go : (z : Bool) → eqb r.number 0 ≡ z → outcome_of r ≡ outcome (pick z (at r.value) (no r.number))
    go true d = rw (eqb-true r.number 0 d)
    go false d = rw (t.none (λ z. clash (eq-eqb r.number 0 z) d))

outcome-free : (r : Served) (a : Answer) → Tidy r → free_answer r ≡ a → outcome_of r ≡ outcome a
unfolding free_answer pick
outcome-free r a t e = go (eqb r.number 0) refl ∙ ap outcome e
  where
    go : (z : Bool) → eqb r.number 0 ≡ z → outcome_of r ≡ outcome (pick z (freed r.value) (no r.number))
    go true d = rw (eqb-true r.number 0 d)
    go false d = rw (t.none (λ z. clash (eq-eqb r.number 0 z) d))

tables_of : {s : Plain} {b : List ℕ} → Shaped s b → Tables s
tables_of sh = record { runs = sh.runs; pages = sh.pages; ready = sh.ready; counts = sh.counts }

kinds_of : (s : Plain) (b : List ℕ) → Shaped s b → Sound s b → Kinds s.pages
kinds_of s b sh S = record { kind = λ p. go p (lt? p 12) }
  where
    go : (p : ℕ) → (p < 12) ⊎ (12 ≤ p) → (get_or s.pages p free_entry).kind ≤ 3
    go p (inl l) = unfold entry_at in S.kinds p l
    go p (inr l) = rw (get_d_past s.pages p free_entry (omega (arith, sh.pages))) (unfold free_entry in omega arith)

-- ---- a call on a sound state, with its counts made afresh

record Met (s : Plain) (b : List ℕ) (call : Call) (r : Served) (d : List ℕ) : Type 0 where
  tables : Tables r.after
  tidy : Tidy r
  long : length d ≡ length b
  answer : outcome_of r ≡ outcome (step (read_plain s b) call).answer
  state : read_plain r.after d ≡ (step (read_plain s b) call).after

met : (s : Plain) (b : List ℕ) → Shaped s b → Sound s b → (call : Call) → Met s b call (served_by s b call) (bytes_by s b call)
unfolding served_by bytes_by step
met s b sh S (Alloc n) = record {
  tables = tables-alloc s b n (tables_of sh);
  tidy = tidy_alloc s (kinds_of s b sh S) b n;
  long = bytes-alloc s b n;
  answer = outcome-alloc (plain_alloc s b n) (alloc (read_plain s b) n).answer (tidy_alloc s (kinds_of s b sh S) b n) (alloc_met s b sh S.well n).answers;
  state = (alloc_met s b sh S.well n).leaves;
}
met s b sh S (Free off) = record {
  tables = tables-free s b off (tables_of sh);
  tidy = tidy_free s (kinds_of s b sh S) b off;
  long = bytes-free s b off;
  answer = outcome-free (plain_free s b off) (free (read_plain s b) off).answer (tidy_free s (kinds_of s b sh S) b off) (free_met s b sh S.well off).answers;
  state = (free_met s b sh S.well off).leaves;
}

-- the state with its counts made afresh is sound
recounted-free : (s : Plain) (b : List ℕ) → (recounted s b).free ≡ count (λ p. is_idle (page_at (recounted s b) b p)) 12
unfolding read_plain
recounted-free s b = recount_free s b ∙ ap (λ (m : State). count (λ p. is_idle (m.page p)) 12) (sym (recount_shown s b b))

recounted-kinds : (s : Plain) (b : List ℕ) → Kinds s.pages → (p : ℕ) → p < 12 → (entry_at (recounted s b) p).kind ≤ 3
unfolding entry_at recounted
recounted-kinds s b k p l = k.kind p

recounted-shape : (s : Plain) (b d : List ℕ) → Tables s → 6144 ≤ length d → Shaped (recounted s b) d
unfolding recounted
recounted-shape s b d t l = record { runs = t.runs; pages = t.pages; ready = t.ready; counts = length-remade _ _ _ ∙ t.counts; bytes = l }

recounted-sound : (s : Plain) (b : List ℕ) → Tables s → 6144 ≤ length b → Kinds s.pages → WellFormed (read_plain s b) → is_sound (recounted s b) b ≡ true
recounted-sound s b t l k wf =
    sound_passes (recounted s b) b (recounted-shape s b b t l)
    (record {
      kinds = recounted-kinds s b k;
      well = rw (recount_shown s b b) wf;
      free = recounted-free s b;
      used = λ c h. recount_used s b c (omega (arith, t.counts)) ∙ ap (λ (m : State). used_of m c) (sym (recount_shown s b b));
      total = λ c h. recount_total s b c (omega (arith, t.counts)) ∙ ap (λ (m : State). (shown m).total c) (sym (recount_shown s b b));
    })

-- ---- the calls

bytes-long : (s : Plain) (b : List ℕ) (call : Call) → length (bytes_by s b call) ≡ length b
unfolding bytes_by
bytes-long s b (Alloc n) = bytes-alloc s b n
bytes-long s b (Free off) = bytes-free s b off

called_long : (s : Plain) (b : List ℕ) (call : Call) → length (called_bytes s b call) ≡ length b
unfolding called_bytes judged_bytes pick
called_long s b call = go (ltb (length b) 6144) (is_sound s b)
  where
    go : (x y : Bool) → length (pick x b (pick y (bytes_by s b call) b)) ≡ length b
    go true y = refl
    go false true = bytes-long s b call
    go false false = refl

module _ (s : Plain) (b : List ℕ) (call : Call) where
  on_short : length b < 6144 → (called_on s b call ≡ refused s (number_of TableTooShort)) × (called_bytes s b call ≡ b)
  unfolding called_on called_bytes
  on_short h = (pick_yes _ _ _ (lt-ltb (length b) 6144 h), pick_yes _ _ _ (lt-ltb (length b) 6144 h))

  on_unsound : 6144 ≤ length b → is_sound s b ≡ false → (called_on s b call ≡ refused s (number_of NotSound)) × (called_bytes s b call ≡ b)
  unfolding called_on called_bytes judged_call judged_bytes
  on_unsound h z = (pick_no _ _ _ (le-ltb (length b) 6144 h) ∙ pick_no _ _ _ z, pick_no _ _ _ (le-ltb (length b) 6144 h) ∙ pick_no _ _ _ z)

  on_sound : 6144 ≤ length b → is_sound s b ≡ true → (called_on s b call ≡ recounted_in (served_by s b call) (bytes_by s b call)) × (called_bytes s b call ≡ bytes_by s b call)
  unfolding called_on called_bytes judged_call judged_bytes
  on_sound h z = (pick_no _ _ _ (le-ltb (length b) 6144 h) ∙ pick_yes _ _ _ z, pick_no _ _ _ (le-ltb (length b) 6144 h) ∙ pick_yes _ _ _ z)

-- what is left of an answer with its counts made afresh
module _ (r : Served) (d : List ℕ) where
  same_outcome : outcome_of (recounted_in r d) ≡ outcome_of r
  unfolding recounted_in
  same_outcome = refl

  same_state : read_plain (recounted_in r d).after d ≡ read_plain r.after d
  unfolding recounted_in
  same_state = recount_shown r.after d d

  sound-again : Tables r.after → 6144 ≤ length d → Kinds r.after.pages → WellFormed (read_plain r.after d) → is_sound (recounted_in r d).after d ≡ true
  unfolding recounted_in
  sound-again t l k wf = recounted-sound r.after d t l k wf

pub serves : (s : Plain) (b : List ℕ) → Tables s → Tallied s → (call : Call) (r : Served) (d : List ℕ) → r ≡ called_on s b call → d ≡ called_bytes s b call → Serves s b call r d
serves s b t T call r d e f = record {
  short = λ h. let x = on_short s b call h in (e ∙ x.0, f ∙ x.1);
  unsound = λ h z. let x = on_unsound s b call h z in (e ∙ x.0, f ∙ x.1);
  answer = λ h z. let x = on_sound s b call h z in ap outcome_of (e ∙ x.0) ∙ same_outcome (served_by s b call) (bytes_by s b call) ∙ (of h z).answer;
  state = λ h z. let x = on_sound s b call h z in rw (e ∙ x.0, f ∙ x.1) (same_state (served_by s b call) (bytes_by s b call) ∙ (of h z).state);
  sound = λ h z. let x = on_sound s b call h z in
      rw (e ∙ x.0, f ∙ x.1)
      (sound-again (served_by s b call) (bytes_by s b call) (of h z).tables (omega (arith, (of h z).long)) (of h z).tidy.kinds
      (rw (of h z).state (claims.calls_keep (read_plain s b) (is h z).well call).well));
  long = ap (λ (l : List ℕ). length l) f ∙ called_long s b call;
}
  where
    shape : 6144 ≤ length b → Shaped s b
    shape h = record { runs = t.runs; pages = t.pages; ready = t.ready; counts = t.counts; bytes = h }

    is : 6144 ≤ length b → is_sound s b ≡ true → Sound s b
    is h z = (judged s b (shape h) T).0 z

    of : 6144 ≤ length b → is_sound s b ≡ true → Met s b call (served_by s b call) (bytes_by s b call)
    of h z = met s b (shape h) (is h z) call
