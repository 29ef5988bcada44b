-- The statements of `specs/Claim.antt`, proved.
use mathlib.Core.Path.{◌≡◌, refl, sym, ap, ◌∙◌, subst, fun_ext}
use mathlib.Core.Option.{none}
use mathlib.Core.List.{List, [], ◌∷◌}
use Prim.Native.Nat.{ℕ, ◌≤◌, ◌<◌}
use native.Mathlib.Omega.{arith}
use lib.ListN.{length, get_or}
use Rattle.words.specs.Word.{Bytes}
use Rattle.model.specs.WellFormed.{WellFormed}
use Rattle.format.specs.Format.{shortest, too_long, formatted}
use Rattle.rules.specs.Bytes.{read}
use Rattle.drawing.specs.Claim.{Laws}
use Rattle.drawing.proofs.Laws.{claims as laws-of}
use Rattle.demands.specs.Calls.{after}
use Rattle.demands.proofs.Editions.{edition_claims}
use Rattle.keeper_model.specs.Store.{Entry, blank, Store}
use Rattle.keeper_model.specs.Directory.{DirectoryOk, Sound}
use Rattle.keeper_model.specs.Requests.{Request, Put, Find, Remove, ask}
use Rattle.keeper_model.specs.Turns.{Map, noted, keeper, others, bytes, Fair, played, heard}
use Rattle.keeper_model.specs.Ruling.{Agrees}
use Rattle.keeper_model.proofs.Directory.{blank_ok}
use Rattle.keeper_model.proofs.Lookup.{lookup-none}
use Rattle.keeper_model.proofs.Claim.{turns-keep, map-kept, faithful as followed}
use Rattle.keeper_words.specs.Words.{entry_of, entries}
use Rattle.keeper_bytes.specs.Requests.{page_bytes, store_of}
use Rattle.keeper_bytes.specs.Turns.{ask_left, result_in, Turn, request, call, write, World, next, Allowed, run_from, AllAllowed}
use Rattle.keeper_bytes.specs.Claim.{Shows, Meets, BothSound, Faithful, Claims}
use Rattle.keeper_bytes.proofs.Meeting.{zero-blank, shown_by_turn, meets as meets-model, calls_meet}
use Rattle.keeper_bytes.proofs.Others.{others-bytes}
use Rattle.keeper_bytes.proofs.Refusals.{refusals}

-- what holds between turns
record Kept (w : ℕ) (x : World) : Type 0 where
  sound : BothSound w x.pool x.words
  agrees : Agrees x.map (store_of w x.pool x.words)

-- bytes that show a sound store with its map, but for bytes off the records
shown-kept : (w : ℕ) (s d : List ℕ) (m : Map) (v : Store) → Sound v → Agrees m v → Shows w s d v → Kept w (record { pool = s; words = d; map = m })
unfolding heard
shown-kept w s d m v S A H = record {
  sound = record {
    bytes = H.holds-bytes;
    pool = H.sound;
    both = subst Sound (sym e) (turns-keep v S (bytes (page_bytes w s)) H.records);
  };
  agrees = subst (Agrees m) (sym e) (map-kept v S m A (bytes (page_bytes w s)) H.records);
}
  where
    e : store_of w s d ≡ played v (bytes (page_bytes w s))
    e = shown_by_turn w s d v H

module _ (w : ℕ) (lo : 2 ≤ w) (hi : w ≤ 255) where
  module _ (x : World) (K : Kept w x) where
    abbrev v : Store
    v = store_of w x.pool x.words

    K2 : Sound v
    K2 = K.sound.both

    fair : (q : Request) → Allowed w x (request q) → Fair v (keeper q)
    unfolding Allowed Fair
    fair (Put key r) h = h.0
    fair (Find key) h = tt
    fair (Remove key) h = tt

    same_allowed : (q : Request) → Allowed w x (request q) → Allowed w (record { pool = x.pool; words = x.words; map = λ key. none }) (request q)
    unfolding Allowed
    same_allowed (Put key r) h = h
    same_allowed (Find key) h = h
    same_allowed (Remove key) h = h

    meets : (q : Request) → Allowed w x (request q) → Meets w x.pool q (ask_left w x.pool x.words q) (ask v q)
    meets q h = meets-model w lo hi x.pool x.words K.sound.bytes K.sound.pool K2 q (same_allowed q h)

    faithful : Faithful w x
    unfolding Allowed ask
    faithful =
        let F = followed (record { store = v; map = x.map }) K2 K.agrees in
        record {
          sound = K.sound;
          edition = λ h. ((edition_claims x.pool K.sound.bytes).told w lo h K.sound.pool).1;
          agrees = K.agrees;
          puts = λ key key16 r br. (meets (Put key r) (key16, br)).result ∙ F.puts key r;
          finds = λ key. (meets (Find key) tt).result ∙ F.finds key;
          removes = λ key. (meets (Remove key) tt).result ∙ F.removes key;
        }

    next-kept : (t : Turn) → Allowed w x t → Kept w (next w x t)
    unfolding next played heard
    next-kept (request q) h =
        shown-kept w (ask_left w x.pool x.words q).pool (ask_left w x.pool x.words q).words
        (noted x.map q (result_in (page_bytes w x.pool) q (ask_left w x.pool x.words q).outcome)) (ask v q).after
        (turns-keep v K2 (keeper q) (fair q h))
        (rw (meets q h).result (map-kept v K2 x.map K.agrees (keeper q) (fair q h)))
        (meets q h).left
    next-kept (call c) h =
        unfold Allowed in
        (shown-kept w (after w x.pool c) x.words x.map (played v (others c))
        (turns-keep v K2 (others c) h) (map-kept v K2 x.map K.agrees (others c) h) (calls_meet w lo hi x.pool x.words K.sound.bytes K.sound.pool K2 c h))
    next-kept (write t) h =
        unfold Allowed in
        (shown-kept w t x.words x.map v K2 K.agrees
        (record {
          sound = sym (X.noise_rule t h.0.0) ∙ K.sound.pool;
          holds-bytes = h.0.1;
          state = sym (X.noise_read t h.0.0 K.sound.pool);
          places = refl;
          entry = refl;
          records = h.1;
        }))
      where
        X : Laws w x.pool
        X = laws-of w lo hi x.pool K.sound.bytes

  turns_faithful : (x : World) → Kept w x → (ts : List Turn) → AllAllowed w x ts → Faithful w (run_from w x ts)
  unfolding run_from AllAllowed
  turns_faithful x K [] h = faithful x K
  turns_faithful x K (t ∷ ts) h = turns_faithful (next w x t) (next-kept x K t h.0) ts h.1

  module _ (s : List ℕ) (bs : Bytes s) (long : shortest w ≤ length s) (short : length s < too_long w)
      (d : List ℕ) (low : 1 ≤ length d) (high : length d ≤ 64) (zeros : (i : ℕ) → get_or d i 0 ≡ 0) where
    X : Laws w s
    X = laws-of w lo hi s bs

    blanks : entries d ≡ (λ i. blank)
    blanks = fun_ext (λ i. ap entry_of (zeros i) ∙ zero-blank)

    no_length : (i : ℕ) → (entries d i).len ≡ 0
    no_length i = ap (λ (f : ℕ → Entry). (f i).len) blanks

    begun : Kept w (record { pool = formatted w s; words = d; map = λ key. none })
    begun = record {
      sound = record {
        bytes = X.format_bytes long short;
        pool = X.format_sound long short;
        both = record {
          pool = subst WellFormed (sym (X.format_read long short)) (X.fresh-fits long short).well;
          directory = subst (λ (f : ℕ → Entry). DirectoryOk (read w (formatted w s)).page (length d) f) (sym blanks) (blank_ok _ _ low high);
        };
      };
      agrees = λ key. lookup-none (store_of w (formatted w s) d) key (λ i (l, y, k). omega (arith, no_length i));
    }

pub claims : Claims
claims w lo hi s d bs = record {
  refusals = refusals w lo hi s d bs;
  meets = λ K q h. meets-model w lo hi s d bs K.pool K.both q h;
  calls_meet = λ K call fair. calls_meet w lo hi s d bs K.pool K.both call fair;
  others-bytes = λ K q h e live other. others-bytes w lo hi s d bs K.pool K.both e live other q h;
  as_a_map = λ long short low high zeros ts h.
      turns_faithful w lo hi (record { pool = formatted w s; words = d; map = λ key. none }) (begun w lo hi s bs long short d low high zeros) ts h;
}
