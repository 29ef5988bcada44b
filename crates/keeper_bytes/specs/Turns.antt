-- Lists of turns on bytes: requests, others' calls, and others' writes.
use Rattle.std.specs.Prelude.{List, [], ◌∷◌, ℕ, ◌/◌, ◌%◌, ◌<◌, eqb}
use Rattle.base.specs.Tests.{pick}
use Rattle.words.specs.Word.{Bytes}
use Rattle.answers.specs.Outcome.{Outcome}
use Rattle.model.specs.Calls.{Call}
use Rattle.demands.specs.Calls.{after}
use Rattle.demands.specs.Demands.{Rewritten}
use Rattle.keeper_model.specs.Store.{bytes_at}
use Rattle.keeper_model.specs.Requests.{Request, Put, Find, Remove, Result, done, found, refused}
use Rattle.keeper_model.specs.Turns.{Map, noted, others, bytes, Fair}
use Rattle.keeper_bytes.specs.Requests.{page_bytes, store_of, Left, put_left, find_left, remove_left}

unfoldable pub ask_left : (w : ℕ) (s d : List ℕ) → Request → Left
ask_left w s d (Put key r) = put_left w s d key r
ask_left w s d (Find key) = find_left w s d key
ask_left w s d (Remove key) = remove_left w s d key

-- ---- what an answer says: a find's, with the page bytes b, the bytes where it says that the record lies

unfoldable pub granted_in : (b : ℕ → ℕ) → Request → (value : ℕ) → Result
granted_in b (Put key r) v = done
granted_in b (Find key) v = found (bytes_at b (v % 4294967296) (v / 4294967296))
granted_in b (Remove key) v = done

unfoldable pub result_in : (b : ℕ → ℕ) → Request → Outcome → Result
result_in b q o = pick (eqb o.number 0) (granted_in b q o.value) (refused o.number)

-- ---- turns

pub data Turn : Type 0 where
  request : Request → Turn
  call : Call → Turn
  write : List ℕ → Turn  -- the slice becomes this

-- pool and directory, and a plain map fed by requests and answers alone
pub record World : Type 0 where
  pub pool : List ℕ
  pub words : List ℕ
  pub map : Map

unfoldable pub next : (w : ℕ) → World → Turn → World
next w x (request q) =
    let l : Left = ask_left w x.pool x.words q in
    record { pool = l.pool; words = l.words; map = noted x.map q (result_in (page_bytes w x.pool) q l.outcome) }
next w x (call c) = record { pool = after w x.pool c; words = x.words; map = x.map }
next w x (write t) = record { pool = t; words = x.words; map = x.map }

-- Others free no block of the keeper, write neither header, records and maps nor the keeper's records; keys have 16 bits, records hold bytes.
unfoldable pub Allowed : (w : ℕ) → World → Turn → Type 0
Allowed w x (request (Put key r)) = (key < 65536) × Bytes r
Allowed w x (request (Find key)) = Unit {0}
Allowed w x (request (Remove key)) = Unit {0}
Allowed w x (call c) = Fair (store_of w x.pool x.words) (others c)
Allowed w x (write t) = Rewritten w x.pool t × Fair (store_of w x.pool x.words) (bytes (page_bytes w t))

unfoldable pub run_from : (w : ℕ) → World → List Turn → World
run_from w x [] = x
run_from w x (t ∷ ts) = run_from w (next w x t) ts

unfoldable pub AllAllowed : (w : ℕ) → World → List Turn → Type 0
AllAllowed w x [] = Unit {0}
AllAllowed w x (t ∷ ts) = Allowed w x t × AllAllowed w (next w x t) ts
