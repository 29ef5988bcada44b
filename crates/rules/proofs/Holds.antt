-- The fields of a well-formed state pass rules 2 to 6, and the state is read back from them.
use mathlib.Core.Path.{◌≡◌, refl, sym, ap, ◌∙◌, subst, fun_ext}
use mathlib.Core.Logic.{◌⊎◌, inl, inr}
use mathlib.Core.List.{[]}
use Prim.Native.Nat.{ℕ, ◌≤◌, ◌<◌}
use native.Mathlib.Omega.{arith}
use borrow.Author.Tests.{lt-ltb, le-ltb}
use Rattle.base.specs.Lists.{Mem}
use Rattle.base.specs.Links.{next_in, prev_from}
use Rattle.base.proofs.Cases.{lt?}
use Rattle.base.proofs.AllBelow.{pick_yes, pick_no}
use Rattle.records.specs.Layout.{no_page}
use Rattle.records.specs.declared.Links.{Links}
use Rattle.model.specs.State.{Page, slab, State, is_idle, is_open}
use Rattle.model.specs.WellFormed.{RunsOk, WellFormed}
use Rattle.model.specs.View.{kind_of, used_of, total_in, shown}
use Rattle.model.proofs.Lists.{open_is, no_list_past}
use Rattle.model.proofs.Table.{slab_ok}
use Rattle.rules.specs.Fields.{Fields, kind, class, run, next, prev, first, page_at}
use Rattle.rules.specs.Read.{open_at, heads_of, list_of, with_lengths, tally_of, read_fields}
use Rattle.rules.specs.Rules.{free_in}
use Rattle.rules.specs.Plain.{Lists, Head, Open}
use Rattle.rules.specs.Agree.{Holds}
use Rattle.rules.specs.Drawn.{starts, on_list, state_image, state_fields}
use Rattle.rules.proofs.Linked.{next-off, prev-off}
use Rattle.rules.proofs.Pages.{open_says, says_open}
use Rattle.rules.proofs.Rule2.{says-rule2}
use Rattle.rules.proofs.Rules.{listed_heads, listed-class, says-rule4, says-rule5, says-rule6}
use Rattle.rules.proofs.Runs.{mem-start, lengths-back, starts-mem, starts-once}
use Rattle.rules.proofs.Shown.{links_are, page_back, slab-is, head-is, run-within, run-links, shows-rule2}

module _ {m : State} (W : WellFormed m) where
  abbrev v : Fields
  v = state_fields m

  abbrev n : ℕ
  n = m.size

  G : RunsOk (λ j. is_idle (m.page j)) m.runs
  G = W.free_runs

  -- ---- the list of free runs
  heads : Lists (Head v n) (next v) (prev v) v.image.first_run (starts m.runs)
  unfolding Head
  heads = record {
    once = starts-once G;
    holds = λ p k.
        let (r, rm, e) = mem-start m.runs p k in (
          omega (arith, run-within W r rm, (G.sound r rm).some-page),
          subst (λ (q : ℕ). kind v q ≡ 1) e (ap (λ (l : Links). l.kind) (run-links W r rm)),
        );
    all = λ p (h, k). starts-mem G p (head-is W p h k).1;
    entry = unfold state_fields state_image in refl;
    nexts = λ p k.
        let (r, rm, e) = mem-start m.runs p k in
        subst (λ (q : ℕ). next v q ≡ next_in no_page q (starts m.runs)) e (ap (λ (l : Links). l.next.0) (run-links W r rm));
    prevs = λ p k.
        let (r, rm, e) = mem-start m.runs p k in
        subst (λ (q : ℕ). prev v q ≡ prev_from no_page no_page q (starts m.runs)) e (ap (λ (l : Links). l.prev.0) (run-links W r rm));
  }

  -- ---- the class lists
  open_back : (c p : ℕ) → open_at v n c p ≡ is_open c (m.page p)
  unfolding open_at
  open_back c p = ap (is_open c) (page_back W p)

  class_links : (c p : ℕ) → Mem p (m.lists c) → v.image.links p ≡ on_list 2 c 0 p (m.lists c)
  class_links c p k = let (b, e, _) = open_is c (m.page p) (W.class-lists.holds c p k) in links_are W p (slab c b) e

  classes : (c : ℕ) → Lists (Open v n c) (next v) (prev v) (first v c) (m.lists c)
  classes c = record {
    once = W.class-lists.once c;
    holds = λ p k. open_says v n c p (open_back c p ∙ W.class-lists.holds c p k);
    all = λ p o. W.class-lists.all c p (sym (open_back c p) ∙ says_open v n c p o);
    entry = unfold state_fields state_image in refl;
    nexts = λ p k. ap (λ (l : Links). l.next.0) (class_links c p k);
    prevs = λ p k. ap (λ (l : Links). l.prev.0) (class_links c p k);
  }

  full : (p : ℕ) → p < n → kind v p ≡ 2 → ¬ Open v n (class v p) p → (next v p ≡ no_page) × (prev v p ≡ no_page)
  full p h k o =
      let c : ℕ = class v p in
      let L = links_are W p (slab c (v.mark p)) (slab-is W p h k) in
      let off : ¬ Mem p (m.lists c) = λ i. o ((classes c).holds p i) in
      (ap (λ (l : Links). l.next.0) L ∙ next-off (m.lists c) p off, ap (λ (l : Links). l.prev.0) L ∙ prev-off (m.lists c) no_page p off)

  pages : page_at v n ≡ m.page
  pages = fun_ext (page_back W)

  pub state-holds : n ≤ no_page → Holds v n
  state-holds few = record {
    two = says-rule2 v n (shows-rule2 W);
    three = (listed_heads v n (starts m.runs) heads).0;
    four = says-rule4 v n (record { lists = λ c h. (m.lists c, classes c); full = full });
    five = says-rule5 v n (λ p h k. (slab_ok W.table (slab-is W p h k)).in_use);
    six = says-rule6 v n free (λ c h. (used c, total c));
  }
    where
      free : v.image.free_pages ≡ free_in (page_at v n) n
      free = unfold state_fields state_image in ap (λ (f : ℕ → Page). free_in f n) (sym pages)

      used : (c : ℕ) → (v.image.class c).used ≡ used_of (read_fields v n) c
      used c = unfold state_fields state_image used_of read_fields in ap (λ (f : ℕ → Page). used_of (record { size = n; page = f; runs = []; lists = λ d. []; tally = m.tally }) c) (sym pages)

      total : (c : ℕ) → (v.image.class c).total ≡ (shown (read_fields v n)).total c
      total c = unfold state_fields state_image shown read_fields in ap (λ (f : ℕ → Page). total_in (λ p. kind_of (f p)) n c) (sym pages)

  -- ---- the state is read back
  runs-back : with_lengths (run v) (heads_of v n) ≡ m.runs
  runs-back =
      ap (with_lengths (run v)) (listed_heads v n (starts m.runs) heads).1
      ∙ lengths-back (run v) m.runs (λ r rm. ap (λ (l : Links). l.run) (run-links W r rm))

  list_back : (c : ℕ) → list_of v n c ≡ m.lists c
  list_back c = go (lt? c 9)
    where
      go : (c < 9) ⊎ (9 ≤ c) → list_of v n c ≡ m.lists c
      go (inl h) = (listed-class v n c h (m.lists c) (classes c)).1
      go (inr h) = unfold list_of in (pick_no _ _ _ (le-ltb c 9 h) ∙ sym (no_list_past W.table W.class-lists c h))

  tally-back : (c : ℕ) → tally_of v c ≡ m.tally c
  unfolding tally_of state_fields state_image
  tally-back c = go (lt? c 9)
    where
      go : (c < 9) ⊎ (9 ≤ c) → tally_of v c ≡ m.tally c
      go (inl h) = pick_yes _ _ _ (lt-ltb c 9 h)
      go (inr h) = pick_no _ _ _ (le-ltb c 9 h) ∙ sym ((W.tallies c).none-past h)

  pub state-read : n ≤ no_page → read_fields v n ≡ m
  unfolding read_fields
  state-read few = λ i. record {
    size = n;
    page = pages i;
    runs = runs-back i;
    lists = λ c. list_back c i;
    tally = λ c. tally-back c i;
  }
