-- The public calls in the order of the code.
use Rattle.std.specs.Prelude.{◌≡◌, Bool, false, List, ℕ, ltb, length, get_or}
use Rattle.base.specs.Tests.{pick}
use Rattle.answers.specs.Outcome.{number_of}
use Rattle.answers.specs.declared.Refusal.TheVariants.{NotSound, TableTooShort}
use Rattle.model.specs.Calls.{Call, Alloc, Free}
use Rattle.plain.specs.Table.{vacant, first_fit}
use Rattle.plain.specs.Pages.{refused}
use Rattle.plain.specs.Engine.{plain_alloc, plain_alloc_bytes, plain_free, plain_free_bytes}
use Rattle.plain.specs.Mirror.{done_refused, kept_alloc, kept_alloc_bytes, kept_free, kept_free_bytes, carved, returned, answer_of, served_with, wanted_pages}
use Rattle.plain.specs.Plain.{Plain, Served, plain_of, page_count}
use Rattle.plain.specs.declared.Extent.{Extent}
use Rattle.plain.specs.declared.Kept.{Kept}
use Rattle.plain.specs.declared.Answer.{Answer}
use Rattle.plain.specs.declared.Done.{Done}
use Rattle.plain_rules.specs.Counts.{recounted}
use Rattle.plain_rules.specs.Rules.{is_sound}
use Rattle.plain_rules.specs.Mirror.{kept_recounted, kept_sound, table_ok}
use Rattle.plain_decide.specs.Calls.{table_length, Serves}

unfoldable pub served_by : (s : Plain) (b : List ℕ) (call : Call) → Served
served_by s b (Alloc n) = plain_alloc s b n
served_by s b (Free off) = plain_free s b off

unfoldable pub bytes_by : (s : Plain) (b : List ℕ) (call : Call) → List ℕ
bytes_by s b (Alloc n) = plain_alloc_bytes s b n
bytes_by s b (Free off) = plain_free_bytes s b off

-- the answer with its counts made afresh
unfoldable pub recounted_in : (r : Served) (b : List ℕ) → Served
recounted_in r b = record { after = recounted r.after b; number = r.number; value = r.value }

-- on a table that is long enough
unfoldable pub judged_call : (s : Plain) (b : List ℕ) (call : Call) → Served
judged_call s b call = pick (is_sound s b) (recounted_in (served_by s b call) (bytes_by s b call)) (refused s (number_of NotSound))

unfoldable pub judged_bytes : (s : Plain) (b : List ℕ) (call : Call) → List ℕ
judged_bytes s b call = pick (is_sound s b) (bytes_by s b call) b

unfoldable pub called_on : (s : Plain) (b : List ℕ) (call : Call) → Served
called_on s b call = pick (ltb (length b) table_length) (refused s (number_of TableTooShort)) (judged_call s b call)

unfoldable pub called_bytes : (s : Plain) (b : List ℕ) (call : Call) → List ℕ
called_bytes s b call = pick (ltb (length b) table_length) b (judged_bytes s b call)

-- ---- on what is kept by value; ok tells whether the table of free runs keeps its rules

unfoldable pub recounted_done : (r : Done) (b : List ℕ) → Done
recounted_done r b = record { after = kept_recounted r.after b; number = r.number; value = r.value; first = r.first; len = r.len }

-- e is the first entry with as many pages as are asked for, an empty place where there is none
unfoldable pub alloc_judged : (s : Kept) (ok : Bool) (e : Extent) (b : List ℕ) (n : ℕ) → Done
alloc_judged s ok e b n =
    pick (pick ok (kept_sound s b) false) (recounted_done (kept_alloc s b n e) (kept_alloc_bytes s b n e)) (done_refused s (number_of NotSound))

unfoldable pub alloc_judged_bytes : (s : Kept) (ok : Bool) (e : Extent) (b : List ℕ) (n : ℕ) → List ℕ
alloc_judged_bytes s ok e b n = pick (pick ok (kept_sound s b) false) (kept_alloc_bytes s b n e) b

unfoldable pub free_judged : (s : Kept) (ok : Bool) (b : List ℕ) (off : ℕ) → Done
free_judged s ok b off =
    pick (pick ok (kept_sound s b) false) (recounted_done (kept_free s b off) (kept_free_bytes s b off)) (done_refused s (number_of NotSound))

unfoldable pub free_judged_bytes : (s : Kept) (ok : Bool) (b : List ℕ) (off : ℕ) → List ℕ
free_judged_bytes s ok b off = pick (pick ok (kept_sound s b) false) (kept_free_bytes s b off) b

-- what is decided is what the call answers and leaves, whatever table of free runs ok and e are of
abbrev pub AllocDecides : (s : Kept) (ok : Bool) (e : Extent) (b : List ℕ) (n : ℕ) (r : Done) (d : List ℕ) → Type 0
AllocDecides s ok e b n r d =
    (t : List Extent) → length t ≡ page_count → ok ≡ table_ok s.pages t → e ≡ get_or t (first_fit (wanted_pages n) t) vacant →
    Serves (plain_of s t) b (Alloc n) (served_with (answer_of r) (carved (first_fit (wanted_pages n) t) r.len t)) d

abbrev pub FreeDecides : (s : Kept) (ok : Bool) (b : List ℕ) (off : ℕ) (r : Done) (d : List ℕ) → Type 0
FreeDecides s ok b off r d =
    (t : List Extent) → length t ≡ page_count → ok ≡ table_ok s.pages t →
    Serves (plain_of s t) b (Free off) (served_with (answer_of r) (returned r.first r.len t)) d

abbrev pub short_of : Kept → Answer
short_of s = record { after = s; number = number_of TableTooShort; value = 0 }
