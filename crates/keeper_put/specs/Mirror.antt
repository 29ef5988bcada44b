-- What the functions are told of pool and directory, and what they leave, in the order of the code.
use Rattle.std.specs.Prelude.{◌≡◌, true, List, ℕ, ◌+◌, ◌≤◌, ◌<◌, length, set, Result, Ok, Err}
use Rattle.base.specs.Tests.{pick}
use Rattle.records.specs.Layout.{pages_from}
use Rattle.answers.specs.declared.Offset.{Offset}
use Rattle.answers.specs.declared.Refusal.{Refusal}
use Rattle.rules.specs.Bytes.{read}
use Rattle.free_sound.specs.Mirror.{free_slice}
use Rattle.sound_pools.specs.Sound.{Validated}
use Rattle.keeper_model.specs.Store.{Entry, is_empty}
use Rattle.keeper_model.specs.Directory.{directory_ok}
use Rattle.keeper_model.specs.Requests.{place_for}
use Rattle.keeper_words.specs.Words.{word_of, entries}
use Rattle.keeper_bytes.specs.Requests.{store_of, record_laid}

-- pool and directory are sound, and the pool has so many pages
pub record Ready (w : ℕ) (s d : List ℕ) (pages : ℕ) : Type 0 where
  pub validated : Validated w s pages
  pub directory : directory_ok (read w s) (length d) (entries d) ≡ true

-- the record has a place and a length that fit
pub record Putting (w : ℕ) (s d : List ℕ) (i key : ℕ) (r : List ℕ) : Type 0 where
  pub some : 1 ≤ length r
  pub short : length r ≤ 65535
  pub place : i ≡ place_for (store_of w s d) key
  pub inside : i < length d

-- a granted block has room for n bytes in a slice of so many, whose pages begin at `from`
abbrev pub Roomy : (from n len : ℕ) → Result Offset Refusal → Type 0
Roomy from n len (Ok off) = from + off.0 + n ≤ len
Roomy from n len (Err r) = Unit {0}

unfoldable pub old_given : (w : ℕ) (s : List ℕ) (pages : ℕ) → Entry → List ℕ
old_given w s pages e = pick (is_empty e) s (free_slice w s pages e.off)

abbrev pub stored_pool : (w : ℕ) (s : List ℕ) (pages : ℕ) (d : List ℕ) (i : ℕ) (r : List ℕ) → Result Offset Refusal → List ℕ
stored_pool w s pages d i r (Ok off) = old_given w (record_laid s (pages_from w pages + off.0) r) pages (entries d i)
stored_pool w s pages d i r (Err x) = s

abbrev pub stored_words : (d : List ℕ) (i key : ℕ) (r : List ℕ) → Result Offset Refusal → List ℕ
stored_words d i key r (Ok off) = set d i (word_of (record { key = key; len = length r; off = off.0 }))
stored_words d i key r (Err x) = d
