-- One call on the bytes of a pool: demands 1 and 2.
use mathlib.Core.Path.{◌≡◌, refl, sym, ap, ◌∙◌, subst}
use mathlib.Core.Logic.{◌⊎◌, inl, inr, ◌≢◌, ◌↔◌}
use mathlib.Core.Bool.{Bool, true, false, cond, ◌||◌}
use mathlib.Core.List.{List}
use Prim.Native.Nat.{ℕ, ◌+◌, ◌-◌, ◌*◌, ◌/◌, ◌%◌, ◌≤◌, ◌<◌}
use native.Mathlib.Omega.{arith}
use lib.Dec.{eqb}
use lib.ListN.{length, get_or}
use borrow.Author.Tests.{eq-eqb, ne_eqb, lt-ltb, le-ltb}
use Rattle.base.specs.Tests.{pick}
use Rattle.base.proofs.Cases.{clash, eq?, lt?, never}
use Rattle.base.proofs.AllBelow.{pick_yes, pick_no}
use Rattle.words.specs.Word.{Bytes}
use Rattle.records.specs.Layout.{map_place, pages_from, page_count}
use Rattle.answers.specs.Outcome.{Outcome, granted, refused}
use Rattle.answers.specs.declared.Refusal.TheVariants.{NotSound, NothingAsked}
use Rattle.maps.specs.Bitmap.{with_mark}
use Rattle.maps.proofs.Marks.{length-with_mark, with_mark-bytes, with_mark-outside}
use Rattle.base.specs.Functions.{upd}
use Rattle.model.specs.Classes.{chunk, chunks, own, has_taken, starts_chunk, Need, nothing, chunk_of, pages, need_of}
use Rattle.model.specs.State.{Page, idle, slab, taken, inside, edge, State}
use Rattle.model.specs.WellFormed.{ClassOk, WellFormed}
use Rattle.model.specs.Calls.{Call, Alloc, Free, Answer, at, freed, no, no_room, outside, not_taken, not_a_start, nothing_asked, refuse, tallied, alloc_for, alloc, free_chunk, free_at, free, step}
use Rattle.model.specs.Live.{Block, offset, extent, Off, Live}
use Rattle.model.specs.Effects.{Effect, FreeEffect}
use Rattle.model.specs.View.{View, Kind, vacant, class, run_of, within, used_of, shown}
use Rattle.model.specs.Ruling.{Verdict, granted as allowed, refused as denied, verdict, clear_in, page_in, run_in, alloc_ruling, free_ruling, past_end, ruling}
use Rattle.model.proofs.Claim.{claims}
use Rattle.model.proofs.Classes.{bitmap_in_page, own-some, small-chunks, large-chunks}
use Rattle.rules.specs.Bytes.{pages_in, map_base, broken_rule, read}
use Rattle.rules.specs.Read.{read_fields}
use Rattle.rules.proofs.Drawn.{fields_drawn}
use Rattle.drawing.specs.Draw.{map_has, in_map, draw, raised}
use Rattle.drawing.specs.Claim.{Fitting, Laws}
use Rattle.drawing.proofs.Encoding.{fields_bounds}
use Rattle.drawing.proofs.Laws.{none-broken, claims as laws-of}
use Rattle.demands.specs.Calls.{outcome, answered, cleared_at, cleared, redrawn, after}
use Rattle.demands.specs.Shown.{shown_by}
use Rattle.demands.specs.Demands.{number_in, live_in, Demand1, Demand2}
use Rattle.demands.proofs.Shown.{view-shown}

-- ---- answers

-- a verdict's number is the answer's
pub verdict-number : (a : Answer) → (outcome a).number ≡ number_in (verdict a)
verdict-number (at off) = refl
verdict-number (freed n) = refl
verdict-number (no k) = refl

-- what is refused has a number
abbrev Numbered : Verdict → Type 0
Numbered allowed = Unit {0}
Numbered (denied k) = k ≢ 0

numbered_if : (t : Bool) (a b : Verdict) → Numbered a → Numbered b → Numbered (cond t a b)
numbered_if true a b h k = h
numbered_if false a b h k = k

numbered : (v : View) (call : Call) → Numbered (ruling v call)
unfolding ruling alloc_ruling free_ruling no_room outside not_taken not_a_start nothing_asked
numbered v (Alloc n) = go (need_of n)
  where
    go : (x : Need) → Numbered (alloc_ruling v x)
    go nothing = omega arith
    go (chunk_of c) = numbered_if (clear_in v c || page_in v) allowed (denied 4) tt (omega arith)
    go (pages k) = numbered_if (run_in v k) allowed (denied 4) tt (omega arith)
numbered v (Free off) = numbered_if (past_end v off) (denied 5) _ (omega arith) (go (v.page (off / 4096)))
  where
    go : (x : Kind) → Numbered (free_ruling v (off / 4096) (off % 4096) x)
    go vacant = omega arith
    go (class c) =
        numbered_if (starts_chunk c (off % 4096)) _ (denied 7)
        (numbered_if (v.mark (off / 4096) (off % 4096 / chunk c)) allowed (denied 6) tt (omega arith)) (omega arith)
    go (run_of n) = numbered_if (eqb (off % 4096) 0) allowed (denied 7) tt (omega arith)
    go within = omega arith

-- so a number 0 means granted, and another one that the answer is a refusal
pub no_zero : (v : View) (call : Call) (a : Answer) → verdict a ≡ ruling v call → (k : ℕ) → a ≡ no k → k ≢ 0
no_zero v call a e k f = subst Numbered (sym e ∙ ap verdict f) (numbered v call)

-- ---- the bytes under the drawing

module _ (w : ℕ) (s : List ℕ) where
  module _ (p q : ℕ) where
    cleared-length : (x : Page) → length (cleared_at w s p q x) ≡ length s
    unfolding cleared_at
    cleared-length idle = refl
    cleared-length (slab c m) = go (starts_chunk c q) (m (q / chunk c)) (has_taken c (upd m (q / chunk c) false))
      where
        go : (t u v : Bool) → length (cond t (cond u (cond v s (with_mark s (map_base w (pages_in w s) p c) (q / chunk c) false)) s) s) ≡ length s
        go true true true = refl
        go true true false = length-with_mark s (map_base w (pages_in w s) p c) (q / chunk c) false
        go true false v = refl
        go false u v = refl
    cleared-length (taken n) = refl
    cleared-length inside = refl
    cleared-length edge = refl

    cleared-bytes : Bytes s → (x : Page) → Bytes (cleared_at w s p q x)
    unfolding cleared_at
    cleared-bytes B idle = B
    cleared-bytes B (slab c m) = go (starts_chunk c q) (m (q / chunk c)) (has_taken c (upd m (q / chunk c) false))
      where
        go : (t u v : Bool) → Bytes (cond t (cond u (cond v s (with_mark s (map_base w (pages_in w s) p c) (q / chunk c) false)) s) s)
        go true true true = B
        go true true false = with_mark-bytes s (map_base w (pages_in w s) p c) (q / chunk c) false B
        go true false v = B
        go false u v = B
    cleared-bytes B (taken n) = B
    cleared-bytes B inside = B
    cleared-bytes B edge = B

  pub under_length : (call : Call) → length (cleared w s call) ≡ length s
  unfolding cleared
  under_length (Alloc n) = refl
  under_length (Free off) = cleared-length (off / 4096) (off % 4096) ((read w s).page (off / 4096))

  pub under_bytes : Bytes s → (call : Call) → Bytes (cleared w s call)
  unfolding cleared
  under_bytes B (Alloc n) = B
  under_bytes B (Free off) = cleared-bytes (off / 4096) (off % 4096) B ((read w s).page (off / 4096))

  -- a refused free clears nothing
  refused_clears : (m : State) (p q k : ℕ) (x : Page) → (free_at m p q x).answer ≡ no k → cleared_at w s p q x ≡ s
  unfolding cleared_at free_at
  refused_clears m p q k idle e = refl
  refused_clears m p q k (slab c b) e = go (starts_chunk c q) (b (q / chunk c)) e
    where
      go : (t u : Bool) →
          (cond t (cond u (record { answer = freed (chunk c); after = free_chunk m p c b (q / chunk c) }) (refuse m not_taken)) (refuse m not_a_start)).answer ≡ no k →
          cond t (cond u (cond (has_taken c (upd b (q / chunk c) false)) s (with_mark s (map_base w (pages_in w s) p c) (q / chunk c) false)) s) s ≡ s
      go true true e = absurd (never (cc))
      go true false e = refl
      go false u e = refl
  refused_clears m p q k (taken n) e = refl
  refused_clears m p q k inside e = refl
  refused_clears m p q k edge e = refl

tallied-used : (m : State) (c d : ℕ) → used_of (tallied m c) d ≡ used_of m d
unfolding used_of tallied
tallied-used m c d = refl

module _ (w : ℕ) (wide : 2 ≤ w) (narrow : w ≤ 255) (s : List ℕ) (B : Bytes s) where
  abbrev L : Laws w s
  L = laws-of w wide narrow s B

  abbrev m : State
  m = read w s

  -- ---- unsound records
  module _ (broken : broken_rule w s ≢ 0) (call : Call) where
    unsound-answer : answered w s call ≡ refused NotSound
    unfolding answered
    unsound-answer = pick_no _ _ _ (ne_eqb (broken_rule w s) 0 broken)

    unsound-after : after w s call ≡ s
    unfolding after
    unsound-after = pick_no _ _ _ (ne_eqb (broken_rule w s) 0 broken)

  -- ---- sound records
  module _ (sound : broken_rule w s ≡ 0) where
    F : Fitting w s m
    F = L.sound-fits sound

    W : WellFormed m
    W = F.well

    pub view-is : shown_by w s ≡ shown m
    unfolding shown_by read read_fields
    view-is =
        let H = (none-broken w s sound).1 in
        view-shown W (fields_drawn W.some-page (omega (arith, F.few)) H (fields_bounds w s B)) H

    module _ (call : Call) where
      pub sound-answer : answered w s call ≡ outcome (step m call).answer
      unfolding answered
      sound-answer = pick_yes _ _ _ (eq-eqb (broken_rule w s) 0 sound)

      pub drawn_after : after w s call ≡ redrawn w (cleared w s call) (step m call).after
      unfolding after
      drawn_after = pick_yes _ _ _ (eq-eqb (broken_rule w s) 0 sound)

      -- the bytes with a freed chunk's mark cleared, which have room for the next state
      pub C : Laws w (cleared w s call)
      C = laws-of w wide narrow (cleared w s call) (under_bytes w s B call)

      pub H : Fitting w (cleared w s call) (step m call).after
      H = let K = L.next_fits m F call in
          record { well = K.well; size = K.size ∙ ap (page_count w) (sym (under_length w s call)); few = K.few }

      -- the next state, over those bytes with its peaks raised
      pub N : Laws w (raised w (cleared w s call) (step m call).after)
      N = laws-of w wide narrow (raised w (cleared w s call) (step m call).after) (C.raised-bytes (step m call).after)

      pub G : Fitting w (raised w (cleared w s call) (step m call).after) (step m call).after
      G = record { well = H.well; size = H.size ∙ ap (page_count w) (sym (C.raised-length (step m call).after)); few = H.few }

      pub after-sound : broken_rule w (after w s call) ≡ 0
      unfolding redrawn
      after-sound = ap (broken_rule w) drawn_after ∙ N.drawn_sound (step m call).after G (C.raised_peaked (step m call).after H)

      pub after_read : read w (after w s call) ≡ (step m call).after
      unfolding redrawn
      after_read = ap (read w) drawn_after ∙ N.drawn_read (step m call).after G

      number_is : (answered w s call).number ≡ number_in (ruling (shown_by w s) call)
      number_is = ap (λ (o : Outcome). o.number) sound-answer ∙ verdict-number (step m call).answer ∙ ap number_in (claims.calls_ruled m W call ∙ sym (ap (λ (v : View). ruling v call) view-is))

      -- refused means a refusal of the model's
      refusal : (answered w s call).number ≢ 0 → (k : ℕ) × ((step m call).answer ≡ no k)
      refusal d = go (step m call).answer refl
        where
          go : (a : Answer) → (step m call).answer ≡ a → (k : ℕ) × ((step m call).answer ≡ no k)
          go (at off) e = absurd (d (ap (λ (o : Outcome). o.number) sound-answer ∙ ap (λ (x : Answer). (outcome x).number) e))
          go (freed n) e = absurd (d (ap (λ (o : Outcome). o.number) sound-answer ∙ ap (λ (x : Answer). (outcome x).number) e))
          go (no k) e = (k, e)

      -- and the other way round
      refusal_number : (k : ℕ) → (step m call).answer ≡ no k → (answered w s call).number ≡ k
      refusal_number k e = ap (λ (o : Outcome). o.number) sound-answer ∙ ap (λ (x : Answer). (outcome x).number) e

    -- ---- refused calls

    -- drawn where no class has more in use, the peaks stay
    pub level_drawn : (n : State) → ((c : ℕ) → used_of n c ≤ used_of m c) → redrawn w s n ≡ draw w s n
    unfolding redrawn
    level_drawn n few =
        let Q = L.sound_peaked sound in
        ap (λ (t : List ℕ). draw w t n) (L.raised_same n (record { high = λ deep c h. omega (arith, few c, Q.high deep c h); spare = Q.spare }))

    pub back_drawn : redrawn w s m ≡ s
    back_drawn = level_drawn m (λ c. omega arith) ∙ L.sound_drawn sound

    nothing_asked_lem : (answered w s (Alloc 0) ≡ refused NothingAsked) × (after w s (Alloc 0) ≡ s)
    unfolding cleared step alloc need_of alloc_for refuse nothing_asked
    nothing_asked_lem = (sound-answer (Alloc 0), drawn_after (Alloc 0) ∙ back_drawn)

    refused-run : (n k : ℕ) → need_of n ≡ pages k → (answered w s (Alloc n)).number ≢ 0 → after w s (Alloc n) ≡ s
    unfolding cleared
    refused-run n k e d =
        let (j, a) = refusal (Alloc n) d in
        drawn_after (Alloc n) ∙ ap (redrawn w s) ((claims.refusals m).run n k j e a) ∙ back_drawn

    refused-chunk : (n c : ℕ) → need_of n ≡ chunk_of c → (answered w s (Alloc n)).number ≢ 0 → after w s (Alloc n) ≡ draw w s (tallied m c)
    unfolding cleared
    refused-chunk n c e d =
        let (j, a) = refusal (Alloc n) d in
        drawn_after (Alloc n) ∙ ap (redrawn w s) ((claims.refusals m).chunk n c j e a) ∙ level_drawn (tallied m c) (λ d. omega (arith, tallied-used m c d))

    refused-free : (off : ℕ) → (answered w s (Free off)).number ≢ 0 → after w s (Free off) ≡ s
    unfolding cleared step free
    refused-free off d =
        let (j, a) = refusal (Free off) d in
        let same : cleared w s (Free off) ≡ s = refused_clears w s m (off / 4096) (off % 4096) j (m.page (off / 4096)) a in
        drawn_after (Free off) ∙ rw (same, (claims.refusals m).free off j a) back_drawn

    free-tells : (e : Block) → live_in w s e → answered w s (Free (offset e)) ≡ granted (extent e)
    free-tells e l = sound-answer (Free (offset e)) ∙ ap outcome (claims.live-freed m W e l)

    free-granted : (off : ℕ) → ((answered w s (Free off)).number ≡ 0) ↔ ((e : Block) × live_in w s e × (offset e ≡ off))
    unfolding Effect FreeEffect
    free-granted off = (there, back)
      where
        there : (answered w s (Free off)).number ≡ 0 → (e : Block) × live_in w s e × (offset e ≡ off)
        there z = go (step m (Free off)).answer refl (claims.calls_keep m W (Free off)).effect
          where
            go : (a : Answer) → (step m (Free off)).answer ≡ a → FreeEffect off m.page a (step m (Free off)).after.page → (e : Block) × live_in w s e × (offset e ≡ off)
            go (at x) e f = absurd f
            go (freed n) e f = let (b, l, o, x) = f.was in (b, l, o)
            go (no k) e f =
                absurd (no_zero (shown m) (Free off) (step m (Free off)).answer (claims.calls_ruled m W (Free off)) k e
                (sym (refusal_number (Free off) k e) ∙ z))

        back : (e : Block) × live_in w s e × (offset e ≡ off) → (answered w s (Free off)).number ≡ 0
        back (e, l, o) = rw (← o) (ap (λ (x : Outcome). x.number) (free-tells e l))

    -- ---- refused for room
    four_is : (n : ℕ) → ((answered w s (Alloc n)).number ≡ 4) ↔ ((step m (Alloc n)).answer ≡ no no_room)
    unfolding no_room
    four_is n = (there, λ e. refusal_number (Alloc n) 4 e)
      where
        there : (answered w s (Alloc n)).number ≡ 4 → (step m (Alloc n)).answer ≡ no 4
        there z =
            let (k, a) = refusal (Alloc n) (λ e. omega arith) in
            let d : k ≡ 4 = sym (refusal_number (Alloc n) k a) ∙ z in
            a ∙ ap no d

    no_chunk : (n c : ℕ) → need_of n ≡ chunk_of c → ((answered w s (Alloc n)).number ≡ 4) ↔ ((clear_in (shown_by w s) c ≡ false) × (page_in (shown_by w s) ≡ false))
    no_chunk n c e =
        let a = four_is n in
        let b = claims.chunk_refused-shown m W n c e in
        rw view-is (λ z. b.0 (a.0 z), λ z. a.1 (b.1 z))

    no_run : (n k : ℕ) → need_of n ≡ pages k → ((answered w s (Alloc n)).number ≡ 4) ↔ (run_in (shown_by w s) k ≡ false)
    no_run n k e =
        let a = four_is n in
        let b = claims.pages-refused-shown m W n k e in
        rw view-is (λ z. b.0 (a.0 z), λ z. a.1 (b.1 z))

    -- ---- bytes that no call writes

    abbrev from : ℕ
    from = pages_from w (pages_in w s)

    -- the mark that a free clears stands in the record, or in a map that lies in a page
    mark-apart : (p q c : ℕ) (b : ℕ → Bool) → m.page p ≡ slab c b → b (q / chunk c) ≡ true → (i : ℕ) → from ≤ i → in_map from m i ≡ false →
        i ≢ map_base w (pages_in w s) p c + q / chunk c / 8
    unfolding map_base in_map pick
    mark-apart p q c b e t i h out d = go (lt? c 3)
      where
        k : ℕ
        k = q / chunk c

        ok : ClassOk c b
        ok = rw e at (W.table.each p)

        within : k < chunks c
        within = side (lt? k (chunks c))
          where
            side : (k < chunks c) ⊎ (chunks c ≤ k) → k < chunks c
            side (inl l) = l
            side (inr l) = absurd (clash t (ok.past_clear k l))

        in_pool : p < pages_in w s
        in_pool = side (lt? p m.size)
          where
            side : (p < m.size) ⊎ (m.size ≤ p) → p < pages_in w s
            side (inl l) = omega (arith, F.size)
            side (inr l) = absurd (never (let z = sym e ∙ W.table.past p l in cc))

        go : (c < 3) ⊎ (3 ≤ c) → ⊥
        go (inl l) =
            let (d₀, few, many) = small-chunks c l in
            let u : k < chunks c = within in
            let x : i ≡ from + 4096 * p + k / 8 = rw (lt-ltb c 3 l) at d in
            let a : (i - from) / 4096 ≡ p = omega arith in
            let j : (i - from) % 4096 ≡ k / 8 = omega arith in
            clash (lt-ltb (8 * (k / 8)) (chunks c) (omega arith)) (rw (le-ltb i from h, a, j, e, lt-ltb c 3 l) at out)
        go (inr l) =
            let few : chunks c ≤ 64 = large-chunks c l in
            let u : k < chunks c = within in
            let y : p < pages_in w s = in_pool in
            let x : i ≡ 8 * map_place w p + k / 8 = rw (le-ltb c 3 l) at d in
            omega arith

    cleared-kept : (p q : ℕ) (x : Page) → m.page p ≡ x → (i : ℕ) → from ≤ i → in_map from m i ≡ false → get_or (cleared_at w s p q x) i 0 ≡ get_or s i 0
    unfolding cleared_at
    cleared-kept p q idle e i h out = refl
    cleared-kept p q (slab c b) e i h out = go (starts_chunk c q) (b (q / chunk c)) (has_taken c (upd b (q / chunk c) false)) refl
      where
        go : (t u v : Bool) → b (q / chunk c) ≡ u →
            get_or (cond t (cond u (cond v s (with_mark s (map_base w (pages_in w s) p c) (q / chunk c) false)) s) s) i 0 ≡ get_or s i 0
        go true true true y = refl
        go true true false y = with_mark-outside s (map_base w (pages_in w s) p c) (q / chunk c) false i (mark-apart p q c b e y i h out)
        go true false v y = refl
        go false u v y = refl
    cleared-kept p q (taken n) e i h out = refl
    cleared-kept p q inside e i h out = refl
    cleared-kept p q edge e i h out = refl

    under_kept : (call : Call) (i : ℕ) → from ≤ i → in_map from m i ≡ false → get_or (cleared w s call) i 0 ≡ get_or s i 0
    unfolding cleared
    under_kept (Alloc n) i h out = refl
    under_kept (Free off) i h out = cleared-kept (off / 4096) (off % 4096) (m.page (off / 4096)) refl i h out

    module _ (call : Call) where
      next-size : (step m call).after.size ≡ pages_in w s
      next-size = (L.next_fits m F call).size

      under_raised : (i : ℕ) → from ≤ i → get_or (raised w (cleared w s call) (step m call).after) i 0 ≡ get_or (cleared w s call) i 0
      under_raised i h = (C call).raised-kept (step m call).after i (rw (ap (page_count w) (under_length w s call)) h)

      pub outside_kept : (i : ℕ) → from ≤ i → in_map from m i ≡ false → in_map from (step m call).after i ≡ false → get_or (after w s call) i 0 ≡ get_or s i 0
      unfolding redrawn
      outside_kept i h old new =
          ap (λ (x : List ℕ). get_or x i 0) (drawn_after call)
          ∙ (N call).drawn_kept (step m call).after i (rw next-size h) (rw next-size new)
          ∙ under_raised i h ∙ under_kept call i h old

      -- a block lies off the maps of a state
      off-maps : (n : State) (e : Block) → ((p c : ℕ) (b : ℕ → Bool) → n.page p ≡ slab c b → (c ≤ 8) × Off e (4096 * p) (chunk c * own c)) →
          (i : ℕ) → offset e ≤ i → i < offset e + extent e → in_map from n (from + i) ≡ false
      unfolding in_map pick
      off-maps n e off i a b =
          let x : from + i - from ≡ i = omega arith in
          rw (le-ltb (from + i) from (omega arith), x) (go (n.page (i / 4096)) refl)
        where
          go : (x : Page) → n.page (i / 4096) ≡ x → map_has x (i % 4096) ≡ false
          go idle z = refl
          go (slab c k) z = small (lt? c 3) (off (i / 4096) c k z)
            where
              beyond : c < 3 → (c ≤ 8) × Off e (4096 * (i / 4096)) (chunk c * own c) → chunks c ≤ 8 * (i % 4096)
              beyond l (d, inl y) = absurd (omega arith)
              beyond l (d, inr y) = omega (arith, bitmap_in_page c d (own-some c l))

              small : (c < 3) ⊎ (3 ≤ c) → (c ≤ 8) × Off e (4096 * (i / 4096)) (chunk c * own c) → map_has (slab c k) (i % 4096) ≡ false
              small (inl l) y = rw (lt-ltb c 3 l) (le-ltb (8 * (i % 4096)) (chunks c) (beyond l y))
              small (inr l) y = rw (le-ltb c 3 l)
          go (taken j) z = refl
          go inside z = refl
          go edge z = refl

      untouched : (e : Block) → live_in w s e → live_in w (after w s call) e → (i : ℕ) → offset e ≤ i → i < offset e + extent e →
          get_or (after w s call) (from + i) 0 ≡ get_or s (from + i) 0
      untouched e l r i a b =
          let live : Live (step m call).after.page e = rw (ap (λ (x : State). x.page) (after_read call)) at r in
          let U = claims.callers_bytes m W call e l live in
          let X = (L.next_fits m F call).well in
          outside_kept (from + i) (omega arith)
          (off-maps m e (λ p c k z. ((rw z at (W.table.each p)).in_range, U.off_old p c k z)) i a b)
          (off-maps (step m call).after e (λ p c k z. ((rw z at (X.table.each p)).in_range, U.off-new p c k z)) i a b)

  -- ---- the demands

  -- sound or not
  module _ {A : Type 0} (yes : broken_rule w s ≡ 0 → A) (other : broken_rule w s ≢ 0 → A) where
    either : A
    either = go (eq? (broken_rule w s) 0)
      where
        go : (broken_rule w s ≡ 0) ⊎ (broken_rule w s ≢ 0) → A
        go (inl e) = yes e
        go (inr d) = other d

  pub demand1 : Demand1 w s
  unfolding redrawn
  demand1 = record {
    length-kept = λ call. either
        (λ e. ap length (drawn_after e call) ∙ (N e call).drawn_length (step m call).after ∙ (C e call).raised-length (step m call).after ∙ under_length w s call)
        (λ d. ap length (unsound-after d call));
    bytes-kept = λ call. either
        (λ e. subst Bytes (sym (drawn_after e call)) ((N e call).drawn_bytes (step m call).after (G e call)))
        (λ d. subst Bytes (sym (unsound-after d call)) B);
    unsound = λ d call. (unsound-answer d call, unsound-after d call);
    nothing_asked_lem = nothing_asked_lem;
    refused-run = λ n k h z. either (λ e. refused-run e n k h z) (λ d. unsound-after d (Alloc n));
    refused-chunk = λ n c e. refused-chunk e n c;
    refused-free = λ off z. either (λ e. refused-free e off z) (λ d. unsound-after d (Free off));
    free-granted = λ off e. free-granted e off;
    free-number = λ off e. number_is e (Free off);
    free-tells = λ b e. free-tells e b;
  }

  pub demand2 : (sound : broken_rule w s ≡ 0) → Demand2 w s sound
  demand2 e = record {
    sound-after = after-sound e;
    answer = sound-answer e;
    state = after_read e;
    no_chunk = no_chunk e;
    no_run = no_run e;
    placed = claims.placing m (W e);
    untouched = untouched e;
    outside = λ call i h old new. outside_kept e call i h old (rw (after_read e call) at new);
  }
