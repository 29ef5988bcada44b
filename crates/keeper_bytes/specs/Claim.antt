-- What is promised of the record keeper beyond its equations, each citing definitions only.
use Rattle.std.specs.Prelude.{◌≡◌, ◌≢◌, false, List, ℕ, ◌+◌, ◌≤◌, ◌<◌, length, get_or}
use Rattle.std.proofs.Math.Option.{none}
use Rattle.words.specs.Word.{Bytes}
use Rattle.answers.specs.declared.Refusal.TheVariants.{NotSound}
use Rattle.model.specs.Calls.{Call, Alloc, step}
use Rattle.model.specs.Live.{Block, offset, extent}
use Rattle.format.specs.Format.{shortest, too_long, formatted}
use Rattle.rules.specs.Bytes.{broken_rule, read}
use Rattle.demands.specs.Calls.{after}
use Rattle.demands.specs.Demands.{live_in}
use Rattle.demands.specs.Editions.{width_of}
use Rattle.keeper_model.specs.Directory.{Sound}
use Rattle.keeper_model.specs.Requests.{Request, Put, Find, Remove, Outcome, ask}
use Rattle.keeper_model.specs.Store.{Store, has_empty}
use Rattle.keeper_model.specs.Turns.{others, bytes, Full, Fair, played}
use Rattle.keeper_model.specs.Ruling.{find_ruling, remove_ruling, put_ruling, Agrees}
use Rattle.keeper_words.specs.Words.{entries}
use Rattle.keeper_bytes.specs.Requests.{pages_begin, page_bytes, store_of, both_sound, Left, refuse_left}
use Rattle.keeper_bytes.specs.Turns.{ask_left, result_in, Turn, request, World, Allowed, run_from, AllAllowed}

-- ---- bytes and model

-- pool and words show the store v, but for bytes off its records
pub record Shows (w : ℕ) (s d : List ℕ) (v : Store) : Type 0 where
  pub sound : broken_rule w s ≡ 0
  pub holds-bytes : Bytes s
  pub state : read w s ≡ v.state
  pub places : length d ≡ v.places
  pub entry : entries d ≡ v.entry
  pub records : Fair v (bytes (page_bytes w s))

-- a request on s has the model's answer, and leaves what it leaves
pub record Meets (w : ℕ) (s : List ℕ) (q : Request) (l : Left) (o : Outcome) : Type 0 where
  pub result : result_in (page_bytes w s) q l.outcome ≡ o.result
  pub left : Shows w l.pool l.words o.after

-- pool and directory are sound
pub record BothSound (w : ℕ) (s d : List ℕ) : Type 0 where
  pub bytes : Bytes s
  pub pool : broken_rule w s ≡ 0
  pub both : Sound (store_of w s d)

-- ---- refusals

module _ (w : ℕ) (s d : List ℕ) where
  -- refusals but 4 change nothing, and 4 leaves what the alloc leaves, its tallies
  pub record Refusals : Type 0 where
    pub unsound : both_sound w s d ≡ false → (q : Request) → ask_left w s d q ≡ refuse_left s d NotSound
    pub unchanged : (q : Request) → (ask_left w s d q).outcome.number ≢ 0 → (ask_left w s d q).outcome.number ≢ 4 →
        ((ask_left w s d q).pool ≡ s) × ((ask_left w s d q).words ≡ d)
    pub no_room_lem : (key : ℕ) (r : List ℕ) → (ask_left w s d (Put key r)).outcome.number ≡ 4 →
        ((ask_left w s d (Put key r)).pool ≡ after w s (Alloc (length r))) × ((ask_left w s d (Put key r)).words ≡ d)

-- ---- others' blocks

-- a live block stays live and keeps its bytes
pub record LeftAlone (w : ℕ) (s : List ℕ) (e : Block) (t : List ℕ) : Type 0 where
  pub live : live_in w t e
  pub same_bytes : (j : ℕ) → offset e ≤ j → j < offset e + extent e → get_or t (pages_begin w s + j) 0 ≡ get_or s (pages_begin w s + j) 0

-- ---- any list of turns

-- pool, directory and map after them, and the next request: 3 never comes
pub record Faithful (w : ℕ) (x : World) : Type 0 where
  pub sound : BothSound w x.pool x.words
  -- of an edition's pool, the functions read that edition still
  pub edition : w ≤ 3 → width_of x.pool ≡ w
  -- the map that pool and directory show
  pub agrees : Agrees x.map (store_of w x.pool x.words)
  pub puts : (key : ℕ) → key < 65536 → (r : List ℕ) → Bytes r →
      result_in (page_bytes w x.pool) (Put key r) (ask_left w x.pool x.words (Put key r)).outcome ≡
      put_ruling (x.map key) (has_empty (store_of w x.pool x.words)) (step (read w x.pool) (Alloc (length r))).answer (length r)
  pub finds : (key : ℕ) → result_in (page_bytes w x.pool) (Find key) (ask_left w x.pool x.words (Find key)).outcome ≡ find_ruling (x.map key)
  pub removes : (key : ℕ) → result_in (page_bytes w x.pool) (Remove key) (ask_left w x.pool x.words (Remove key)).outcome ≡ remove_ruling (x.map key)

-- ---- all of them, over the class record's width

pub record Laws (w : ℕ) (s d : List ℕ) : Type 0 where
  pub refusals : Refusals w s d
  -- on a sound pool with a sound directory a request does what the model's does, and so do others' calls
  pub meets : BothSound w s d → (q : Request) → Allowed w (record { pool = s; words = d; map = λ key. none }) (request q) →
      Meets w s q (ask_left w s d q) (ask (store_of w s d) q)
  pub calls_meet : BothSound w s d → (call : Call) → Fair (store_of w s d) (others call) → Shows w (after w s call) d (played (store_of w s d) (others call))
  -- no request touches a live block of others
  pub others-bytes : BothSound w s d → (q : Request) → Allowed w (record { pool = s; words = d; map = λ key. none }) (request q) →
      (e : Block) → live_in w s e → ((i : ℕ) → Full (store_of w s d) i → (entries d i).off ≢ offset e) → LeftAlone w s e (ask_left w s d q).pool
  -- from what format leaves of any slice that it accepts, and 1 to 64 words of 0, any list of turns is answered as the map says
  pub as_a_map : shortest w ≤ length s → length s < too_long w → 1 ≤ length d → length d ≤ 64 → ((i : ℕ) → get_or d i 0 ≡ 0) →
      (ts : List Turn) → AllAllowed w (record { pool = formatted w s; words = d; map = λ key. none }) ts →
      Faithful w (run_from w (record { pool = formatted w s; words = d; map = λ key. none }) ts)

abbrev pub Claims : Type 0
Claims = (w : ℕ) → 2 ≤ w → w ≤ 255 → (s d : List ℕ) → Bytes s → Laws w s d
