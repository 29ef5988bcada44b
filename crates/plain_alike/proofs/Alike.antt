-- The plain engine and the packed pool answer alike, since both are the model.
use mathlib.Core.Path.{◌≡◌, refl, sym, ap, ◌∙◌}
use mathlib.Core.Bool.{true}
use mathlib.Core.List.{List, [], ◌∷◌}
use Prim.Native.Nat.{ℕ, ◌≤◌, ◌<◌}
use native.Mathlib.Omega.{arith}
use lib.Dec.{eqb}
use lib.ListN.{length, get_or}
use borrow.Author.Tests.{eqb-true, lt-ltb}
use Rattle.base.proofs.Tests.{both_true}
use Rattle.base.proofs.AllBelow.{each_of, all-at, pick_yes}
use Rattle.words.specs.Word.{Bytes}
use Rattle.records.specs.Header.{header_at}
use Rattle.records.specs.Class.{class_at}
use Rattle.answers.specs.Outcome.{Outcome}
use Rattle.model.specs.State.{State, Tally}
use Rattle.model.specs.View.{used_of, shown}
use Rattle.model.specs.Calls.{Call, step, fresh}
use Rattle.format.specs.Format.{formatted}
use Rattle.rules.specs.Read.{tally_in, tally_of, read_fields}
use Rattle.rules.specs.Rules.{free_in}
use Rattle.rules.specs.Bytes.{pages_in, image_of, fields_of, broken_rule, read}
use Rattle.rules.proofs.Rules.{rule6-says}
use Rattle.drawing.proofs.Laws.{none-broken, claims as laws-of}
use Rattle.demands.specs.Calls.{answered, after, outcome}
use Rattle.demands.specs.Demands.{Turn, Allowed, Rewritten, played, Demands}
use Rattle.demands.proofs.Demands.{all-demands}
use Rattle.plain.specs.Plain.{Plain, Served, no_counts, read_plain, tally_of as plainTally}
use Rattle.plain.specs.declared.Counts.{Counts}
use Rattle.plain.specs.declared.Extent.{Extent}
use Rattle.plain_rules.specs.Counts.{used_in, total_in, free_in as plain_free}
use Rattle.plain_rules.specs.Rules.{counts_ok, is_sound}
use Rattle.plain_rules.proofs.Counted.{free-is, used-is, total-is}
use Rattle.plain.specs.declared.Kept.{Kept}
use Rattle.plain_decide.specs.Calls.{table_length, outcome_of, Serves, seen, served_as}
use Rattle.plain_alike.specs.Claim.{calls_of, pool_answers, Played, SameCounts, Alike}

-- ---- counts

-- of sound records
module _ (w : ℕ) (u : List ℕ) (e : broken_rule w u ≡ 0) where
  pool-free : (header_at u).free_pages ≡ free_in (read w u).page (read w u).size
  unfolding fields_of image_of read read_fields
  pool-free = (rule6-says (fields_of w u) (pages_in w u) (none-broken w u e).1.six).0

  pool-used : (c : ℕ) → c < 9 → (class_at w u c).used ≡ used_of (read w u) c
  unfolding fields_of image_of read
  pool-used c h = ((rule6-says (fields_of w u) (pages_in w u) (none-broken w u e).1.six).1 c h).0

  pool-total : (c : ℕ) → c < 9 → (class_at w u c).total ≡ (shown (read w u)).total c
  unfolding fields_of image_of read
  pool-total c h = ((rule6-says (fields_of w u) (pages_in w u) (none-broken w u e).1.six).1 c h).1

pool-tally : (w : ℕ) (u : List ℕ) (c : ℕ) → c < 9 → (read w u).tally c ≡ tally_in (class_at w u c)
unfolding read read_fields tally_of fields_of image_of
pool-tally w u c h = pick_yes _ _ _ (lt-ltb c 9 h)

-- of a sound plain state
module _ (s : Plain) (b : List ℕ) (h : is_sound s b ≡ true) where
  plain_free_lem : s.free ≡ free_in (read_plain s b).page (read_plain s b).size
  unfolding is_sound free_in read_plain
  plain_free_lem = eqb-true s.free (plain_free s.pages) (each_of _ h).1.1.0 ∙ free-is s b

  plain-counts : (c : ℕ) → c < 9 → ((get_or s.counts c no_counts).used ≡ used_of (read_plain s b) c) × ((get_or s.counts c no_counts).total ≡ (shown (read_plain s b)).total c)
  unfolding is_sound counts_ok
  plain-counts c l =
      let x = both_true (eqb (get_or s.counts c no_counts).used (used_in s.pages b c)) (eqb (get_or s.counts c no_counts).total (total_in s.pages c))
      (all-at (λ c. counts_ok s.pages b c (get_or s.counts c no_counts)) 9 (each_of _ h).1.1.1.0 c l) in
      (eqb-true (get_or s.counts c no_counts).used (used_in s.pages b c) x.0 ∙ used-is s b c, eqb-true (get_or s.counts c no_counts).total (total_in s.pages c) x.1 ∙ total-is s b c)

plain-tally : (s : Plain) (b : List ℕ) (c : ℕ) → plainTally (get_or s.counts c no_counts) ≡ (read_plain s b).tally c
unfolding read_plain
plain-tally s b c = refl

same_reqs : (x : Counts) (t : Tally) → plainTally x ≡ t → x.reqs ≡ t.reqs
unfolding plainTally
same_reqs x t e = ap (λ (y : Tally). y.reqs) e

same_fails : (x : Counts) (t : Tally) → plainTally x ≡ t → x.fails ≡ t.fails
unfolding plainTally
same_fails x t e = ap (λ (y : Tally). y.fails) e

same_counts : (w : ℕ) (u : List ℕ) (k : Kept) (x : List Extent) (d : List ℕ) → broken_rule w u ≡ 0 → is_sound (seen k x) d ≡ true → read w u ≡ read_plain (seen k x) d → SameCounts w u k
same_counts w u k x d e h f = record {
  free = plain_free_lem (seen k x) d h ∙ ap (λ (m : State). free_in m.page m.size) (sym f) ∙ sym (pool-free w u e);
  used = λ c l. (plain-counts (seen k x) d h c l).0 ∙ ap (λ (m : State). used_of m c) (sym f) ∙ sym (pool-used w u e c l);
  total = λ c l. (plain-counts (seen k x) d h c l).1 ∙ ap (λ (m : State). (shown m).total c) (sym f) ∙ sym (pool-total w u e c l);
  reqs = λ c l. same_reqs (get_or k.counts c no_counts) (tally_in (class_at w u c)) (tally c l);
  fails = λ c l. same_fails (get_or k.counts c no_counts) (tally_in (class_at w u c)) (tally c l);
}
  where
    tally : (c : ℕ) → c < 9 → plainTally (get_or k.counts c no_counts) ≡ tally_in (class_at w u c)
    tally c l = plain-tally (seen k x) d c ∙ ap (λ (m : State). m.tally c) (sym f) ∙ pool-tally w u c l

-- ---- a list of turns

module _ (w : ℕ) (two : 2 ≤ w) (wide : w ≤ 255) where
  -- a pool and a plain state that show the same state
  record Shows (s : List ℕ) (p : Plain) (b : List ℕ) : Type 0 where
    bytes : Bytes s
    sound : broken_rule w s ≡ 0
    whole : table_length ≤ length b
    ready : is_sound p b ≡ true
    same : read w s ≡ read_plain p b

  -- callers wrote into their blocks
  rewritten : (s u : List ℕ) (p : Plain) (b : List ℕ) → Shows s p b → Rewritten w s u → Shows u p b
  rewritten s u p b S (R, B) = record {
    bytes = B;
    sound = sym ((laws-of w two wide s S.bytes).noise_rule u R) ∙ S.sound;
    whole = S.whole;
    ready = S.ready;
    same = sym ((laws-of w two wide s S.bytes).noise_read u R S.sound) ∙ S.same;
  }

  module _ (s : List ℕ) (p : Plain) (b : List ℕ) (S : Shows s p b) (call : Call) (r : Served) (e : List ℕ) (G : Serves p b call r e) where
    D : Demands w s
    D = all-demands w two wide s S.bytes

    answer-alike : outcome_of r ≡ answered w s call
    answer-alike = G.answer S.whole S.ready ∙ ap (λ (m : State). outcome (step m call).answer) (sym S.same) ∙ sym ((D.demand2 S.sound).answer call)

    next-alike : Shows (after w s call) r.after e
    next-alike = record {
      bytes = D.demand1.bytes-kept call;
      sound = (D.demand2 S.sound).sound-after call;
      whole = omega (arith, G.long, S.whole);
      ready = G.sound S.whole S.ready;
      same = (D.demand2 S.sound).state call ∙ ap (λ (m : State). (step m call).after) S.same ∙ sym (G.state S.whole S.ready);
    }

  all_alike : (ts : List Turn) (s : List ℕ) (p : Kept) (x : List Extent) (b : List ℕ) → 12 ≤ length x → Shows s (seen p x) b → Allowed w s ts →
      (os : List Outcome) (t : Kept) (y : List Extent) (d : List ℕ) → Played p x b (calls_of ts) os t y d → (os ≡ pool_answers w ts) × SameCounts w (played w s ts) t
  all_alike [] s p x b h S A os t y d (e, f, _, _) = (e, rw f (same_counts w s p x b S.sound S.ready S.same))
  all_alike (k ∷ ts) s p x b h S (R, A) os t y d (r, u, e, rest, L, f, P) =
      let U = rewritten s k.bytes (seen p x) b S R in
      let G : Serves (seen p x) b k.call (served_as r u) e = L.served h in
      let (v, z) = all_alike ts (after w k.bytes k.call) r.after u e (omega (arith, L.kept)) (next-alike k.bytes (seen p x) b U k.call (served_as r u) e G) A rest t y d P in
      (f ∙ rw (answer-alike k.bytes (seen p x) b U k.call (served_as r u) e G, v), z)

pub alike : Alike
alike w two wide s B low high twelve ts A f x h F b l os t y d P =
    all_alike w two wide ts (formatted w s) f x b h begins A os t y d P
  where
    begins : Shows w two wide (formatted w s) (seen f x) b
    begins =
        let L = laws-of w two wide s B in
        record {
          bytes = L.format_bytes low high;
          sound = L.format_sound low high;
          whole = l;
          ready = F.sound b l;
          same = L.format_read low high ∙ ap fresh twelve ∙ sym (F.state b);
        }
