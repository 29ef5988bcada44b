-- One chunk more or less changes one field of a word, and only the words that change are written.
use Rattle.std.proofs.Common.{◌≡◌, ℕ, ◌+◌, ◌-◌, ◌*◌, ◌/◌, ◌%◌, ◌<◌, ◌≤◌, true, false, ◌≢◌, ◌⊎◌, List, sym, refl, ap, ◌∙◌, inl, inr, ⊎_elim, mod-lt, arith, lit<}
use Rattle.base.specs.Tests.{pick}
use Rattle.base.proofs.Cases.{eq?, lt?}
use Rattle.words.specs.Word.{Bytes, word, set_word}
use Rattle.words.proofs.Laws.{word_small, set_word-back}
use Rattle.records.specs.Layout.{counts_place, tally_place}
use Rattle.records.specs.Class.{pack_counts, pack_tally, unpack_class, class_at, with_class}
use Rattle.records.specs.Fits.{ClassFits}
use Rattle.records.specs.Mirror.{first_to}
use Rattle.records.proofs.Laws.{first_fits, unpack_pack_class, pack_unpack_counts, unpacked_class-fits}
use Rattle.records.proofs.Counts.{counts-put}
use Rattle.model.specs.Classes.{counted}
use Rattle.model.specs.Calls.{raise}
use Rattle.classes.specs.Mirror.{chunk_asked, chunk_carried, page_used, none_used, chunk_borrowed, count_used, count_used_first, count_page_used, count_back, count_back_first, chunk_refused}
use Rattle.classes.proofs.Numbers.{raise_more, raise-stops}
use Rattle.class_counting.specs.Mirror.{chunk_failed, counts_more, asks_more, fails_more, raised_by}
use Rattle.class_counting.specs.declared.Tally.{Tally}

-- ---- the words by themselves

-- over the three fields of the word
carries : (v f u t : ℕ) → f * 281474976710656 + u % 16777216 * 16777216 + t % 16777216 ≡ v → f < 65536 → u < 16777216 → (u ≡ 16777215) ⊎ (u ≢ 16777215)
    → (v + 16777216) % 18446744073709551616 ≡ (f + (u + 1) / 16777216) % 65536 * 281474976710656 + (u + 1) % 16777216 * 16777216 + t % 16777216
carries v f u t d h l (inl e) =
    let a : (u + 1) / 16777216 ≡ 1 = omega arith in
    let b : (u + 1) % 16777216 ≡ 0 = omega arith in
    rw (a, b) (omega arith)
carries v f u t d h l (inr e) =
    let a : (u + 1) / 16777216 ≡ 0 = omega arith in
    let b : (u + 1) % 16777216 ≡ u + 1 = omega arith in
    rw (a, b) (omega arith)

-- the same with n more in the lowest: a, b and g are the carries
sums : (v n f u t a t' b u' g f' : ℕ) → f * 281474976710656 + u * 16777216 + t ≡ v → t + n ≡ a * 16777216 + t' → u + 1 + a ≡ b * 16777216 + u' → f + b ≡ g * 65536 + f'
    → v + (16777216 + n) ≡ g * 18446744073709551616 + (f' * 281474976710656 + u' * 16777216 + t')
sums v n f u t a t' b u' g f' d x y z = omega arith

left : (g z : ℕ) → z < 18446744073709551616 → (g * 18446744073709551616 + z) % 18446744073709551616 ≡ z
left g z h = omega arith

least : (f u t : ℕ) → f < 65536 → u < 16777216 → t < 16777216 → f * 281474976710656 + u * 16777216 + t < 18446744073709551616
least f u t h k l = omega arith

quotients : (x : ℕ) → x ≡ x / 16777216 * 16777216 + x % 16777216
quotients x = omega arith

pages : (x : ℕ) → x ≡ x / 65536 * 65536 + x % 65536
pages x = omega arith

page_carried : (v n f u t : ℕ) → f * 281474976710656 + u * 16777216 + t ≡ v
    → (v + (16777216 + n)) % 18446744073709551616 ≡ (f + (u + 1 + (t + n) / 16777216) / 16777216) % 65536 * 281474976710656 + (u + 1 + (t + n) / 16777216) % 16777216 * 16777216 + (t + n) % 16777216
page_carried v n f u t d =
    let a : ℕ = (t + n) / 16777216 in
    let b : ℕ = (u + 1 + a) / 16777216 in
    ap (λ (x : ℕ). x % 18446744073709551616) (sums v n f u t a ((t + n) % 16777216) b ((u + 1 + a) % 16777216) ((f + b) / 65536) ((f + b) % 65536) d (quotients (t + n)) (quotients (u + 1 + a)) (pages (f + b)))
    ∙ left _ _ (least ((f + b) % 65536) ((u + 1 + a) % 16777216) ((t + n) % 16777216) (mod-lt _ (lit< tt)) (mod-lt _ (lit< tt)) (mod-lt _ (lit< tt)))

wrapped : (v : ℕ) → 16777216 ≤ v → v < 18446744073709551616 → (v + 18446744073692774400) % 18446744073709551616 ≡ v - 16777216
wrapped v h l = omega arith

lowered : (v f u t : ℕ) → f * 281474976710656 + u * 16777216 + t ≡ v → 1 ≤ u → v - 16777216 ≡ f * 281474976710656 + (u - 1) * 16777216 + t
lowered v f u t d h = omega arith

borrows : (v f u t : ℕ) → f * 281474976710656 + u % 16777216 * 16777216 + t % 16777216 ≡ v → f < 65536 → u < 16777216 → (u ≡ 0) ⊎ (u ≢ 0)
    → (v + 18446744073692774400) % 18446744073709551616
    ≡ (f + 65535 + (u + 16777215) / 16777216) % 65536 * 281474976710656 + (u + 16777215) % 16777216 % 16777216 * 16777216 + t % 16777216
borrows v f u t d h l (inl e) =
    let a : (u + 16777215) / 16777216 ≡ 0 = omega arith in
    let b : (u + 16777215) % 16777216 % 16777216 ≡ 16777215 = omega arith in
    rw (a, b) (go (eq? f 0))
  where
    go : (f ≡ 0) ⊎ (f ≢ 0) → (v + 18446744073692774400) % 18446744073709551616 ≡ (f + 65535 + 0) % 65536 * 281474976710656 + 16777215 * 16777216 + t % 16777216
    go (inl z) =
        let c : (f + 65535 + 0) % 65536 ≡ 65535 = omega arith in
        rw c (omega arith)
    go (inr z) =
        let c : (f + 65535 + 0) % 65536 ≡ f - 1 = omega arith in
        let g : 16777216 ≤ v = omega arith in
        let y : (v + 18446744073692774400) % 18446744073709551616 ≡ v - 16777216 = wrapped v g (omega arith) in
        rw (c, y) (omega arith)
borrows v f u t d h l (inr e) =
    let a : (u + 16777215) / 16777216 ≡ 1 = omega arith in
    let b : (u + 16777215) % 16777216 % 16777216 ≡ u - 1 = omega arith in
    let c : (f + 65535 + 1) % 65536 ≡ f = omega arith in
    let g : 16777216 ≤ v = omega arith in
    let y : (v + 18446744073692774400) % 18446744073709551616 ≡ v - 16777216 = wrapped v g (omega arith) in
    let m : u % 16777216 ≡ u = omega arith in
    rw (a, b, c, y) (lowered v f u _ (rw m at d) (omega arith))

module _ (v : ℕ) (small : v < 18446744073709551616) where
  pub used_carries : (v + 16777216) % 18446744073709551616 ≡ pack_counts (chunk_carried (unpack_class v 0))
  unfolding pack_counts unpack_class
  used_carries = carries v _ _ _ (pack_unpack_counts v 0 small) (mod-lt _ (lit< tt)) (mod-lt _ (lit< tt)) (eq? _ _)

  pub page_carries : (c : ℕ) → (v + (16777216 + counted c)) % 18446744073709551616 ≡ pack_counts (page_used c (unpack_class v 0))
  unfolding pack_counts unpack_class
  page_carries c =
      let d : v / 281474976710656 % 65536 * 281474976710656 + v / 16777216 % 16777216 * 16777216 + v % 16777216 ≡ v = omega arith in
      page_carried v (counted c) (v / 281474976710656 % 65536) (v / 16777216 % 16777216) (v % 16777216) d

  pub used_borrows : (v + 18446744073692774400) % 18446744073709551616 ≡ pack_counts (chunk_borrowed (unpack_class v 0))
  unfolding pack_counts unpack_class
  used_borrows = borrows v _ _ _ (pack_unpack_counts v 0 small) (mod-lt _ (lit< tt)) (mod-lt _ (lit< tt)) (eq? _ _)

  asks_rise : v < 18446744069414584320 → v + 4294967296 ≡ pack_tally (chunk_asked (unpack_class 0 v))
  unfolding pack_tally unpack_class
  asks_rise h = omega (arith, raise_more (v / 4294967296 % 4294967296) (omega arith))

  asks_stop : 18446744069414584320 ≤ v → v ≡ pack_tally (chunk_asked (unpack_class 0 v))
  unfolding pack_tally unpack_class
  asks_stop h = omega (arith, raise-stops (v / 4294967296 % 4294967296) (omega arith))

  -- the sum in 64 bits says by itself whether asks have stopped
  module _ (x : ℕ) (sum : x ≡ (v + 4294967296) % 18446744073709551616) where
    pub asks_carry : x < v → v ≡ pack_tally (chunk_asked (unpack_class 0 v))
    asks_carry h = asks_stop (omega arith)

    pub asks_added : v ≤ x → x ≡ pack_tally (chunk_asked (unpack_class 0 v))
    asks_added h =
        let z : x ≡ v + 4294967296 = omega arith in
        z ∙ asks_rise (omega arith)

  pub fails_rise : v % 4294967296 < 4294967295 → v + 1 ≡ pack_tally (chunk_failed (unpack_class 0 v))
  unfolding pack_tally unpack_class
  fails_rise h = omega (arith, raise_more (v % 4294967296) h)

  pub fails-stop : 4294967295 ≤ v % 4294967296 → v ≡ pack_tally (chunk_failed (unpack_class 0 v))
  unfolding pack_tally unpack_class
  fails-stop h = omega (arith, raise-stops (v % 4294967296) h)

-- another first page read back from the word of counts
first_read : (v p : ℕ) → p < 65536 → unpack_class (pack_counts (first_to (unpack_class v 0) p)) 0 ≡ first_to (unpack_class v 0) p
first_read v p h =
    let F : ClassFits (first_to (unpack_class v 0) p) = first_fits _ p (unpacked_class-fits v 0) h in
    ap (unpack_class (pack_counts (first_to (unpack_class v 0) p))) (no-tally v p) ∙ unpack_pack_class _ F
  where
    no-tally : (v p : ℕ) → 0 ≡ pack_tally (first_to (unpack_class v 0) p)
    no-tally v p = unfold pack_tally unpack_class in refl

-- ---- in the record: the other word does not matter

counts-used : (a b : ℕ) → pack_counts (chunk_carried (unpack_class a 0)) ≡ pack_counts (chunk_carried (unpack_class a b))
unfolding pack_counts unpack_class
counts-used a b = refl

counts-back : (a b : ℕ) → pack_counts (chunk_borrowed (unpack_class a 0)) ≡ pack_counts (chunk_borrowed (unpack_class a b))
unfolding pack_counts unpack_class
counts-back a b = refl

tally-used : (a b : ℕ) → pack_tally (chunk_asked (unpack_class 0 b)) ≡ pack_tally (chunk_carried (unpack_class a b))
unfolding pack_tally unpack_class
tally-used a b = refl

tally-back : (a b : ℕ) → b < 18446744073709551616 → b ≡ pack_tally (chunk_borrowed (unpack_class a b))
unfolding pack_tally unpack_class
tally-back a b h = omega arith

counts-small : (a : ℕ) → a < 18446744073709551616 → pack_counts (chunk_borrowed (unpack_class a 0)) < 18446744073709551616
unfolding pack_counts unpack_class
counts-small a h = omega arith

counts-used-first : (a b p : ℕ) → pack_counts (chunk_carried (first_to (unpack_class a 0) p)) ≡ pack_counts (chunk_carried (first_to (unpack_class a b) p))
unfolding pack_counts unpack_class
counts-used-first a b p = refl

tally-used-first : (a b p : ℕ) → pack_tally (chunk_asked (unpack_class 0 b)) ≡ pack_tally (chunk_carried (first_to (unpack_class a b) p))
unfolding pack_tally unpack_class
tally-used-first a b p = refl

counts-back-first : (a b p : ℕ) → pack_counts (chunk_borrowed (first_to (unpack_class a 0) p)) ≡ pack_counts (chunk_borrowed (first_to (unpack_class a b) p))
unfolding pack_counts unpack_class
counts-back-first a b p = refl

tally-back-first : (a b p : ℕ) → b < 18446744073709551616 → b ≡ pack_tally (chunk_borrowed (first_to (unpack_class a b) p))
unfolding pack_tally unpack_class
tally-back-first a b p h = omega arith

counts-first-small : (a p : ℕ) → p < 65536 → pack_counts (chunk_borrowed (first_to (unpack_class a 0) p)) < 18446744073709551616
unfolding pack_counts unpack_class
counts-first-small a p h = omega arith

tally-page : (a b c : ℕ) → pack_tally (chunk_asked (unpack_class 0 b)) ≡ pack_tally (page_used c (unpack_class a b))
unfolding pack_tally unpack_class
tally-page a b c = refl

counts-page : (a b c : ℕ) → pack_counts (page_used c (unpack_class a 0)) ≡ pack_counts (page_used c (unpack_class a b))
unfolding pack_counts unpack_class
counts-page a b c = refl

raise-small : (n : ℕ) → n < 4294967296 → raise n < 4294967296
raise-small n h = ⊎_elim (λ l. omega (arith, raise_more n l)) (λ l. omega (arith, raise-stops n l)) (lt? n 4294967295)

-- asks first, then failures
halves : (q f : ℕ) → q < 4294967296 → f < 4294967296
    → (q * 4294967296 + f) / 4294967296 % 4294967296 * 4294967296 + raise ((q * 4294967296 + f) % 4294967296) ≡ q * 4294967296 + raise f
halves q f h l =
    let a : (q * 4294967296 + f) / 4294967296 % 4294967296 ≡ q = omega arith in
    let b : (q * 4294967296 + f) % 4294967296 ≡ f = omega arith in
    rw (a, b)

tally-none : (a b : ℕ) → pack_tally (chunk_failed (unpack_class 0 (pack_tally (chunk_asked (unpack_class 0 b))))) ≡ pack_tally (none_used (unpack_class a b))
unfolding pack_tally unpack_class
tally-none a b = halves (raise (b / 4294967296 % 4294967296)) (b % 4294967296) (raise-small _ (mod-lt _ (lit< tt))) (mod-lt _ (lit< tt))

counts-none : (a b : ℕ) → a < 18446744073709551616 → pack_counts (none_used (unpack_class a b)) ≡ a
unfolding pack_counts unpack_class
counts-none a b h = omega arith

module _ (w : ℕ) (s : List ℕ) where
  pub used-put : (k l x y : ℕ) → x < 18446744073709551616 → (t : Tally) → t ≡ raised_by 16777216 true false (record { counts = x; asks = y; peak = 0 })
      → (s' s'' : List ℕ) → s' ≡ set_word s k t.counts → s'' ≡ set_word s' l t.asks
      → s'' ≡ set_word (set_word s k (pack_counts (chunk_carried (unpack_class x 0)))) l (pack_tally (chunk_asked (unpack_class 0 y)))
  unfolding raised_by counts_more asks_more fails_more pick
  used-put k l x y small t r s' s'' e f =
      let a : t.counts ≡ pack_counts (chunk_carried (unpack_class x 0)) = ap (λ (u : Tally). u.counts) r ∙ used_carries x small in
      f ∙ rw (e, a, ap (λ (u : Tally). u.asks) r)

  module _ (c k l : ℕ) (counts : k ≡ counts_place w c) (tally : l ≡ tally_place w c) (x y : ℕ) (hx : x ≡ word s k) (hy : y ≡ word s l) where
    pub used-counted : (s' : List ℕ) → s' ≡ set_word (set_word s k (pack_counts (chunk_carried (unpack_class x 0)))) l (pack_tally (chunk_asked (unpack_class 0 y))) → s' ≡ count_used w s c
    unfolding count_used with_class class_at
    used-counted s' e = e ∙ rw (hx, hy, tally-used (word s k) (word s l), counts-used (word s k) (word s l), counts, tally)

    pub used-first-counted : (p : ℕ) → p < 65536 → (z : ℕ) → z ≡ pack_counts (first_to (unpack_class x 0) p) → (s' : List ℕ)
        → s' ≡ set_word (set_word s k (pack_counts (chunk_carried (unpack_class z 0)))) l (pack_tally (chunk_asked (unpack_class 0 y))) → s' ≡ count_used_first w s c p
    unfolding count_used_first with_class class_at
    used-first-counted p few z hz s' e =
        e ∙ rw (hz, first_read x p few, hx, hy, tally-used-first (word s k) (word s l) p, counts-used-first (word s k) (word s l) p, counts, tally)

  pub page-counted : (c k l : ℕ) → k ≡ counts_place w c → l ≡ tally_place w c → (x y : ℕ) → x < 18446744073709551616 → x ≡ word s k → y ≡ word s l
      → (n : ℕ) → n ≡ 16777216 + counted c → (t : Tally) → t ≡ raised_by n true false (record { counts = x; asks = y; peak = 0 })
      → (s' s'' : List ℕ) → s' ≡ set_word s k t.counts → s'' ≡ set_word s' l t.asks → s'' ≡ count_page_used w s c
  unfolding count_page_used with_class class_at raised_by counts_more asks_more fails_more pick
  page-counted c k l counts tally x y small hx hy n hn t r s' s'' e f =
      let a : t.counts ≡ pack_counts (page_used c (unpack_class (word s k) 0)) =
      ap (λ (u : Tally). u.counts) r ∙ ap (λ (m : ℕ). (x + m) % 18446744073709551616) hn ∙ page_carries x small c ∙ ap (λ (v : ℕ). pack_counts (page_used c (unpack_class v 0))) hx in
      let b : t.asks ≡ pack_tally (chunk_asked (unpack_class 0 (word s l))) = ap (λ (u : Tally). u.asks) r ∙ ap (λ (v : ℕ). pack_tally (chunk_asked (unpack_class 0 v))) hy in
      f ∙ rw (b, tally-page (word s k) (word s l) c, e, a, counts-page (word s k) (word s l) c, counts, tally)

  -- the word of counts stays
  pub none-counted : Bytes s → (c l : ℕ) → l ≡ tally_place w c → (y : ℕ) → y ≡ word s l → (t : Tally) → t ≡ raised_by 0 true true (record { counts = 0; asks = y; peak = 0 })
      → (s' : List ℕ) → s' ≡ set_word s l t.asks → s' ≡ chunk_refused w s c
  unfolding chunk_refused with_class class_at raised_by asks_more fails_more pick
  none-counted B c l tally y hy t r s' e =
      let k : ℕ = counts_place w c in
      let a : set_word s k (pack_counts (none_used (unpack_class (word s k) (word s l)))) ≡ s = ap (set_word s k) (counts-none (word s k) (word s l) (word_small s k B)) ∙ set_word-back s k B in
      let b : t.asks ≡ pack_tally (none_used (unpack_class (word s k) (word s l))) =
      ap (λ (u : Tally). u.asks) r ∙ ap (λ (v : ℕ). pack_tally (chunk_failed (unpack_class 0 (pack_tally (chunk_asked (unpack_class 0 v)))))) hy ∙ tally-none (word s k) (word s l) in
      rw (← tally) (e ∙ ap (set_word s l) b ∙ ap (λ (z : List ℕ). set_word z l (pack_tally (none_used (unpack_class (word s k) (word s l))))) (sym a))

  pub back_counted : Bytes s → (c k : ℕ) → k ≡ counts_place w c → (s' : List ℕ)
      → s' ≡ set_word s k (pack_counts (chunk_borrowed (unpack_class (word s k) 0))) → s' ≡ count_back w s c
  unfolding count_back
  back_counted = counts-put chunk_borrowed counts-back tally-back counts-small w s

  pub back-first-counted : Bytes s → (c k : ℕ) → k ≡ counts_place w c → (p : ℕ) → p < 65536 → (s' : List ℕ)
      → s' ≡ set_word s k (pack_counts (chunk_borrowed (unpack_class (pack_counts (first_to (unpack_class (word s k) 0) p)) 0))) → s' ≡ count_back_first w s c p
  unfolding count_back_first
  back-first-counted B c k counts p few s' e =
      counts-put (λ r. chunk_borrowed (first_to r p)) (λ a b. counts-back-first a b p) (λ a b h. tally-back-first a b p h) (λ a h. counts-first-small a p few) w s B c k counts s'
      (e ∙ rw (first_read (word s k) p few))
