-- The maps that lie in pages, drawn: which bytes they write, and what.
use mathlib.Core.Path.{◌≡◌, refl, sym, ap, ◌∙◌}
use mathlib.Core.Logic.{◌⊎◌, inl, inr, ⊎_elim}
use mathlib.Core.Bool.{Bool, true, false}
use mathlib.Core.List.{List}
use Prim.Native.Nat.{ℕ, zero, suc, ◌+◌, ◌-◌, ◌*◌, ◌/◌, ◌%◌, ◌≤◌, ◌<◌}
use native.Mathlib.Omega.{arith}
use lib.Dec.{lit<}
use lib.ListN.{length, get_or, get_or-eq_default}
use lib.Seq.{ext_get_or}
use borrow.Author.Tests.{lt-ltb, le-ltb}
use Rattle.base.specs.Tests.{pick}
use Rattle.base.proofs.Cases.{lt?, bool?, clash}
use Rattle.words.specs.Word.{Bytes}
use Rattle.records.specs.Layout.{pages_from}
use Rattle.model.specs.Classes.{chunks}
use Rattle.model.proofs.Classes.{small-chunks}
use Rattle.model.specs.State.{slab, State}
use Rattle.maps.specs.Bitmap.{bits_of}
use Rattle.maps.proofs.Bits.{byte_small}
use Rattle.drawing.specs.Draw.{map_has, map_byte, in_map, mapped_byte, tab, mapped}

module _ {A : Type 0} where
  length-tab : (n : ℕ) (h : ℕ → A) → length (tab n h) ≡ n
  unfolding tab
  length-tab zero h = refl
  length-tab (suc n) h = ap suc (length-tab n (λ k. h (suc k)))

  get_d_tab : (n : ℕ) (h : ℕ → A) (i : ℕ) (d : A) → i < n → get_or (tab n h) i d ≡ h i
  unfolding tab
  get_d_tab zero h i d l = absurd (omega arith)
  get_d_tab (suc n) h zero d l = refl
  get_d_tab (suc n) h (suc i) d l = get_d_tab n (λ k. h (suc k)) i d (omega arith)

-- ---- the chunks of a class

-- ---- where the maps lie

module _ (from : ℕ) (m : State) where
  pub map-before : (i : ℕ) → i < from → in_map from m i ≡ false
  unfolding in_map pick
  map-before i h = rw (lt-ltb i from h)

  -- byte j of page p
  module _ (p j x : ℕ) (h : j < 4096) (e : x ≡ from + 4096 * p + j) where
    page_of : (x - from) / 4096 ≡ p
    page_of = omega arith

    byte_of : (x - from) % 4096 ≡ j
    byte_of = omega arith

    pub map_at : in_map from m x ≡ map_has (m.page p) j
    unfolding in_map pick
    map_at = rw (le-ltb x from (omega arith), page_of, byte_of)

    mapped_at : (s : List ℕ) → map_has (m.page p) j ≡ true → mapped_byte from m s x ≡ map_byte (m.page p) j
    unfolding mapped_byte pick
    mapped_at s t = rw (map_at, t) (λ i. map_byte (m.page (page_of i)) (byte_of i))

-- ---- the maps written

module _ (w : ℕ) (m : State) (s : List ℕ) where
  pub length-mapped : length (mapped w m s) ≡ length s
  unfolding mapped
  length-mapped = length-tab (length s) (mapped_byte (pages_from w m.size) m s)

  byte_mapped : (i : ℕ) → i < length s → get_or (mapped w m s) i 0 ≡ mapped_byte (pages_from w m.size) m s i
  unfolding mapped
  byte_mapped i h = get_d_tab (length s) (mapped_byte (pages_from w m.size) m s) i 0 h

  past-mapped : (i : ℕ) → length s ≤ i → get_or (mapped w m s) i 0 ≡ 0
  past-mapped i h = get_or-eq_default (mapped w m s) 0 {n = i} (rw length-mapped h)

  -- the bytes outside the maps stay
  pub mapped-kept : (i : ℕ) → in_map (pages_from w m.size) m i ≡ false → get_or (mapped w m s) i 0 ≡ get_or s i 0
  unfolding mapped_byte pick
  mapped-kept i e =
      ⊎_elim (λ (h : i < length s). byte_mapped i h ∙ rw e) (λ (h : length s ≤ i). past-mapped i h ∙ sym (get_or-eq_default s 0 {n = i} h)) (lt? i (length s))

  pub mapped-records : (i : ℕ) → i < pages_from w m.size → get_or (mapped w m s) i 0 ≡ get_or s i 0
  mapped-records i h = mapped-kept i (map-before (pages_from w m.size) m i h)

  pub mapped-keeps : Bytes s → Bytes (mapped w m s)
  mapped-keeps B i = go (bool? (in_map (pages_from w m.size) m i)) (lt? i (length s))
    where
      go : (in_map (pages_from w m.size) m i ≡ true) ⊎ (in_map (pages_from w m.size) m i ≡ false) → (i < length s) ⊎ (length s ≤ i)
          → get_or (mapped w m s) i 0 < 256
      go (inl e) (inl h) = unfold mapped_byte map_byte pick in rw (byte_mapped i h, e) (byte_small _)
      go (inl e) (inr h) = rw (past-mapped i h) (lit< tt)
      go (inr e) h = rw (mapped-kept i e) (B i)

  -- byte j of the map of page p
  pub mapped-has : (p j : ℕ) → j < 4096 → map_has (m.page p) j ≡ true → pages_from w m.size + 4096 * p + j < length s
      → get_or (mapped w m s) (pages_from w m.size + 4096 * p + j) 0 ≡ map_byte (m.page p) j
  mapped-has p j l t h = byte_mapped _ h ∙ mapped_at (pages_from w m.size) m p j _ l refl s t

  pub mapped-map : (p c : ℕ) (k : ℕ → Bool) → m.page p ≡ slab c k → c < 3 → (j : ℕ) → 8 * j < chunks c → pages_from w m.size + 4096 * p + j < length s
      → get_or (mapped w m s) (pages_from w m.size + 4096 * p + j) 0 ≡ bits_of (λ i. k (8 * j + i)) 8
  unfolding map_byte pick
  mapped-map p c k e a j b h =
      let (d, z, u) = small-chunks c a in
      byte_mapped _ h
      ∙ mapped_at (pages_from w m.size) m p j _ (omega arith) refl s (rw (e, lt-ltb c 3 a) (lt-ltb (8 * j) (chunks c) b))
      ∙ rw e

-- byte i with the maps written depends on that byte alone, and in a map on none
pub mapped-alike : (w : ℕ) (m : State) (s t : List ℕ) → length s ≡ length t → (i : ℕ)
    → (in_map (pages_from w m.size) m i ≡ false → get_or s i 0 ≡ get_or t i 0) → get_or (mapped w m s) i 0 ≡ get_or (mapped w m t) i 0
mapped-alike w m s t l i e = go (bool? (in_map (pages_from w m.size) m i)) (lt? i (length s))
  where
    go : (in_map (pages_from w m.size) m i ≡ true) ⊎ (in_map (pages_from w m.size) m i ≡ false) → (i < length s) ⊎ (length s ≤ i)
        → get_or (mapped w m s) i 0 ≡ get_or (mapped w m t) i 0
    go (inr f) h = mapped-kept w m s i f ∙ e f ∙ sym (mapped-kept w m t i f)
    go (inl f) (inr h) = past-mapped w m s i h ∙ sym (past-mapped w m t i (omega arith))
    go (inl f) (inl h) = byte_mapped w m s i h ∙ unfold mapped_byte pick in rw f (sym (byte_mapped w m t i (omega arith) ∙ rw f))

-- the only bytes that are s outside the maps, and have the maps
pub mapped-is : (w : ℕ) (m : State) (s t : List ℕ) → length t ≡ length s → ((i : ℕ) → in_map (pages_from w m.size) m i ≡ false → get_or t i 0 ≡ get_or s i 0)
    → ((p j : ℕ) → j < 4096 → map_has (m.page p) j ≡ true → get_or t (pages_from w m.size + 4096 * p + j) 0 ≡ map_byte (m.page p) j)
    → t ≡ mapped w m s
mapped-is w m s t l out maps =
    ext_get_or 0 t (mapped w m s) (l ∙ sym (length-mapped w m s)) (λ i h. go i (omega arith) (bool? (in_map from m i)) (lt? i from))
  where
    from : ℕ
    from = pages_from w m.size

    go : (i : ℕ) → i < length s → (in_map from m i ≡ true) ⊎ (in_map from m i ≡ false) → (i < from) ⊎ (from ≤ i) → get_or t i 0 ≡ get_or (mapped w m s) i 0
    go i h (inr f) a = out i f ∙ sym (mapped-kept w m s i f)
    go i h (inl f) (inl a) = absurd (clash f (map-before from m i a))
    go i h (inl f) (inr a) =
        let p : ℕ = (i - from) / 4096 in
        let j : ℕ = (i - from) % 4096 in
        let z : i ≡ from + 4096 * p + j = omega arith in
        let k : map_has (m.page p) j ≡ true = sym (map_at from m p j i (omega arith) z) ∙ f in
        ap (λ (x : ℕ). get_or t x 0) z ∙ maps p j (omega arith) k ∙ sym (mapped_at from m p j i (omega arith) z s k) ∙ sym (byte_mapped w m s i h)
