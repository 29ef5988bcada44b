-- What is decided on what is kept by value, joined with the table of free runs, is the call on the plain state.
use mathlib.Core.Path.{◌≡◌, refl, sym, ap, ◌∙◌}
use mathlib.Core.Bool.{Bool, true, false}
use mathlib.Core.List.{List}
use Prim.Native.Nat.{ℕ}
use lib.Dec.{ltb}
use lib.ListN.{length, get_or}
use Rattle.base.specs.Tests.{pick}
use Rattle.base.proofs.Tests.{both_true}
use Rattle.answers.specs.Outcome.{number_of}
use Rattle.answers.specs.declared.Refusal.TheVariants.{TableTooShort}
use Rattle.model.specs.Calls.{Alloc, Free}
use Rattle.plain.specs.Table.{vacant, first_fit}
use Rattle.plain.specs.Plain.{Served, plain_of}
use Rattle.plain.specs.Pages.{refused}
use Rattle.plain.specs.Engine.{plain_alloc, plain_alloc_bytes, plain_free, plain_free_bytes}
use Rattle.plain.specs.Mirror.{done_refused, answer_of, carved, returned, served_with, kept_alloc, kept_alloc_bytes, wanted_pages, kept_free, kept_free_bytes}
use Rattle.plain.specs.declared.Extent.{Extent}
use Rattle.plain.specs.declared.Kept.{Kept}
use Rattle.plain.specs.declared.Done.{Done}
use Rattle.plain.proofs.Joined.{alike, alloc-joined, alloc-bytes, free-joined, free_bytes, no-back}
use Rattle.plain.proofs.Shapes.{Tables}
use Rattle.plain_rules.specs.Counts.{recounted}
use Rattle.plain_rules.specs.Mirror.{table_ok, kept_sound, kept_recounted}
use Rattle.plain_rules.specs.Sound.{Tallied}
use Rattle.plain_rules.proofs.Split.{sound-split}
use Rattle.plain_decide.specs.Mirror.{served_by, bytes_by, recounted_in, judged_call, judged_bytes, called_on, called_bytes, recounted_done, alloc_judged, alloc_judged_bytes, free_judged, free_judged_bytes, AllocDecides, FreeDecides}
use Rattle.plain_decide.proofs.Relied.{paged_sound}
use Rattle.plain_decide.proofs.Serving.{serves}

-- what the code decides, by the length of the table of chunks
abbrev pub short : List ℕ → Bool
short b = ltb (length b) 6144

-- ---- alloc

module _ (s : Kept) (t : List Extent) (long : length t ≡ 12) (b : List ℕ) (n : ℕ) where
  abbrev i : ℕ
  i = first_fit (wanted_pages n) t

  abbrev e : Extent
  e = get_or t i vacant

  abbrev carve : Done → Served
  carve d = served_with (answer_of d) (carved i d.len t)

  no-carve : (m : ℕ) → refused (plain_of s t) m ≡ carve (done_refused s m)
  unfolding refused done_refused carved pick
  no-carve m = refl

  alloc_anew : recounted_in (plain_alloc (plain_of s t) b n) (plain_alloc_bytes (plain_of s t) b n) ≡ carve (recounted_done (kept_alloc s b n e) (kept_alloc_bytes s b n e))
  alloc_anew =
      ap (λ (r : Served). recounted_in r (plain_alloc_bytes (plain_of s t) b n)) (alloc-joined s t long b n)
      ∙ ap (λ (d : List ℕ). recounted_in (carve (kept_alloc s b n e)) d) (alloc-bytes s t long b n)
      ∙ counted_same
    where
      counted_same : recounted_in (carve (kept_alloc s b n e)) (kept_alloc_bytes s b n e) ≡ carve (recounted_done (kept_alloc s b n e) (kept_alloc_bytes s b n e))
      counted_same = unfold recounted_in in unfold recounted in unfold recounted_done in unfold kept_recounted in refl

  alloc_called : called_on (plain_of s t) b (Alloc n) ≡ carve (pick (short b) (done_refused s (number_of TableTooShort)) (alloc_judged s (table_ok s.pages t) e b n))
  unfolding called_on judged_call alloc_judged served_by bytes_by
  alloc_called =
      alike carve (short b) (λ _. no-carve _)
      (λ _. rw (sound-split s t b) (alike carve (pick (table_ok s.pages t) (kept_sound s b) false) (λ _. alloc_anew) (λ _. no-carve _)))

  alloc-left : called_bytes (plain_of s t) b (Alloc n) ≡ pick (short b) b (alloc_judged_bytes s (table_ok s.pages t) e b n)
  unfolding called_bytes judged_bytes alloc_judged_bytes bytes_by
  alloc-left = rw (sound-split s t b, alloc-bytes s t long b n)

pub alloc_decides : (s : Kept) (ok : Bool) (e : Extent) (b : List ℕ) (n : ℕ) (r : Done) (d : List ℕ) → ((t : List Extent) → length t ≡ 12 → Tables (plain_of s t)) → ((t : List Extent) → Tallied (plain_of s t))
    → r ≡ pick (short b) (done_refused s (number_of TableTooShort)) (alloc_judged s ok e b n) → d ≡ pick (short b) b (alloc_judged_bytes s ok e b n) → AllocDecides s ok e b n r d
alloc_decides s ok e b n r d tables tallied er ed t long eo ee =
    serves (plain_of s t) b (tables t long) (tallied t) (Alloc n) _ d
    (ap (carve s t long b n) (rw (eo, ee) at er) ∙ sym (alloc_called s t long b n))
    ((rw (eo, ee) at ed) ∙ sym (alloc-left s t long b n))

-- ---- free

module _ (s : Kept) (t : List Extent) (b : List ℕ) (off : ℕ) where
  abbrev back : Done → Served
  back d = served_with (answer_of d) (returned d.first d.len t)

  free_anew : kept_sound s b ≡ true → recounted_in (plain_free (plain_of s t) b off) (plain_free_bytes (plain_of s t) b off) ≡ back (recounted_done (kept_free s b off) (kept_free_bytes s b off))
  free_anew h =
      ap (λ (r : Served). recounted_in r (plain_free_bytes (plain_of s t) b off)) (free-joined s t b off (paged_sound s b h))
      ∙ ap (λ (d : List ℕ). recounted_in (back (kept_free s b off)) d) (free_bytes s t b off)
      ∙ counted_same
    where
      counted_same : recounted_in (back (kept_free s b off)) (kept_free_bytes s b off) ≡ back (recounted_done (kept_free s b off) (kept_free_bytes s b off))
      counted_same = unfold recounted_in in unfold recounted in unfold recounted_done in unfold kept_recounted in refl

  free_called : called_on (plain_of s t) b (Free off) ≡ back (pick (short b) (done_refused s (number_of TableTooShort)) (free_judged s (table_ok s.pages t) b off))
  unfolding called_on judged_call free_judged served_by bytes_by
  free_called =
      alike back (short b) (λ _. no-back s t _)
      (λ _. rw (sound-split s t b) (alike back (pick (table_ok s.pages t) (kept_sound s b) false) (λ h. free_anew (both_true (table_ok s.pages t) (kept_sound s b) h).1) (λ _. no-back s t _)))

  free-left : called_bytes (plain_of s t) b (Free off) ≡ pick (short b) b (free_judged_bytes s (table_ok s.pages t) b off)
  unfolding called_bytes judged_bytes free_judged_bytes bytes_by
  free-left = rw (sound-split s t b, free_bytes s t b off)

pub free_decides : (s : Kept) (ok : Bool) (b : List ℕ) (off : ℕ) (r : Done) (d : List ℕ) → ((t : List Extent) → length t ≡ 12 → Tables (plain_of s t)) → ((t : List Extent) → Tallied (plain_of s t))
    → r ≡ pick (short b) (done_refused s (number_of TableTooShort)) (free_judged s ok b off) → d ≡ pick (short b) b (free_judged_bytes s ok b off) → FreeDecides s ok b off r d
free_decides s ok b off r d tables tallied er ed t long eo =
    serves (plain_of s t) b (tables t long) (tallied t) (Free off) _ d
    (ap (back s t b off) (rw eo at er) ∙ sym (free_called s t b off))
    ((rw eo at ed) ∙ sym (free-left s t b off))
