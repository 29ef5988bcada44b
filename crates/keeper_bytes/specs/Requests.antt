-- Put, find and remove (SPEC 18) on the bytes of a pool and the words of a directory, for every content of both.
use Rattle.std.specs.Prelude.{Bool, false, List, ℕ, ◌+◌, ◌*◌, eqb, leb, ltb, length, get_or, set}
use Rattle.base.specs.Tests.{pick}
use Rattle.records.specs.Layout.{pages_from}
use Rattle.copying.specs.Lay.{lay}
use Rattle.answers.specs.Outcome.{Outcome, granted, refused}
use Rattle.answers.specs.declared.Refusal.{Refusal}
use Rattle.answers.specs.declared.Refusal.TheVariants.{NotSound, NothingAsked, WrongLength, NoPlace, NotHeld}
use Rattle.model.specs.Calls.{Alloc, Free}
use Rattle.rules.specs.Bytes.{pages_in, broken_rule, read}
use Rattle.demands.specs.Calls.{answered, after}
use Rattle.keeper_model.specs.Store.{Entry, Store, is_empty, slot}
use Rattle.keeper_model.specs.Directory.{directory_ok}
use Rattle.keeper_model.specs.Requests.{place_for}
use Rattle.keeper_words.specs.Words.{word_of, entries}

-- ---- pool and directory

-- where the pages begin
abbrev pub pages_begin : (w : ℕ) (s : List ℕ) → ℕ
pages_begin w s = pages_from w (pages_in w s)

-- the bytes of the pages, by their offset
abbrev pub page_bytes : (w : ℕ) (s : List ℕ) → ℕ → ℕ
page_bytes w s j = get_or s (pages_begin w s + j) 0

-- the store that they show
abbrev pub store_of : (w : ℕ) (s d : List ℕ) → Store
store_of w s d = record { state = read w s; bytes = page_bytes w s; places = length d; entry = entries d }

unfoldable pub both_sound : (w : ℕ) (s d : List ℕ) → Bool
both_sound w s d = pick (eqb (broken_rule w s) 0) (directory_ok (read w s) (length d) (entries d)) false

-- what a request answers and leaves
pub record Left : Type 0 where
  pub outcome : Outcome
  pub pool : List ℕ
  pub words : List ℕ

abbrev pub refuse_left : (s d : List ℕ) → Refusal → Left
refuse_left s d r = record { outcome = refused r; pool = s; words = d }

-- ---- put

-- the record laid over the slice from place a on
abbrev pub record_laid : (s : List ℕ) (a : ℕ) (r : List ℕ) → List ℕ
record_laid s a r = lay a 0 r (length r) s

-- the block of the entry that stood in the place, where one did, is freed
unfoldable pub old_freed : (w : ℕ) (s : List ℕ) → Entry → List ℕ
old_freed w s e = pick (is_empty e) s (after w s (Free e.off))

-- in place i, when the pool has granted the block at off: the copy, the word, and only then the old block
unfoldable pub put_granted : (w : ℕ) (s d : List ℕ) (i key : ℕ) (r : List ℕ) (off : ℕ) → Left
put_granted w s d i key r off = record {
  outcome = granted off;
  pool = old_freed w (record_laid (after w s (Alloc (length r))) (pages_begin w s + off) r) (entries d i);
  words = set d i (word_of (record { key = key; len = length r; off = off }));
}

-- in place i, when the pool has answered so
unfoldable pub put_answered : (w : ℕ) (s d : List ℕ) (i key : ℕ) (r : List ℕ) → Outcome → Left
put_answered w s d i key r o =
    pick (eqb o.number 0) (put_granted w s d i key r o.value)
    (record { outcome = o; pool = after w s (Alloc (length r)); words = d })

unfoldable pub put_left : (w : ℕ) (s d : List ℕ) (key : ℕ) (r : List ℕ) → Left
put_left w s d key r =
    pick (both_sound w s d)
    (pick (eqb (length r) 0) (refuse_left s d NothingAsked)
    (pick (ltb 65535 (length r)) (refuse_left s d WrongLength)
    (pick (leb (length d) (place_for (store_of w s d) key)) (refuse_left s d NoPlace)
    (put_answered w s d (place_for (store_of w s d) key) key r (answered w s (Alloc (length r)))))))
    (refuse_left s d NotSound)

-- ---- find and remove

-- where a record lies, as a value: its length, then its offset in 32 bits
unfoldable pub place_of : Entry → ℕ
place_of e = e.len * 4294967296 + e.off

unfoldable pub find_left : (w : ℕ) (s d : List ℕ) (key : ℕ) → Left
find_left w s d key =
    pick (both_sound w s d)
    (pick (ltb (slot (store_of w s d) key) (length d))
    (record { outcome = granted (place_of (entries d (slot (store_of w s d) key))); pool = s; words = d })
    (refuse_left s d NotHeld))
    (refuse_left s d NotSound)

unfoldable pub remove_left : (w : ℕ) (s d : List ℕ) (key : ℕ) → Left
remove_left w s d key =
    pick (both_sound w s d)
    (pick (ltb (slot (store_of w s d) key) (length d))
    (record {
      outcome = answered w s (Free (entries d (slot (store_of w s d) key)).off);
      pool = after w s (Free (entries d (slot (store_of w s d) key)).off);
      words = set d (slot (store_of w s d) key) 0;
    })
    (refuse_left s d NotHeld))
    (refuse_left s d NotSound)
