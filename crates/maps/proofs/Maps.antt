-- The bytes of a whole map and its marks tell each other, wherever the map lies.
use mathlib.Core.Path.{◌≡◌, refl, sym, ap, ◌∙◌}
use mathlib.Core.Logic.{◌⊎◌, inl, inr, ⊎_elim, ◌≢◌}
use mathlib.Core.Bool.{Bool}
use mathlib.Core.List.{List, [], ◌∷◌, ◌++◌}
use Prim.Native.Nat.{ℕ, zero, suc, ◌+◌, ◌-◌, ◌*◌, ◌/◌, ◌%◌, ◌≤◌, ◌<◌}
use native.Mathlib.Omega.{arith}
use lib.Dec.{lit<}
use lib.ListN.{length, get_or, length-append, get_or-append, get_or-eq_default}
use lib.Seq.{ext_get_or, get_or_at}
use Rattle.base.specs.Functions.{upd}
use Rattle.base.proofs.Cases.{eq?, lt?, Out, in?}
use Rattle.base.proofs.Functions.{upd_same, upd_other}
use Rattle.words.specs.Word.{Bytes}
use Rattle.maps.specs.Bitmap.{mark, bits_of, with_mark}
use Rattle.maps.specs.Mirror.{map_bytes, splice}
use Rattle.maps.proofs.Bits.{bits_ext, bit_byte, byte_small, byte_is}
use Rattle.maps.proofs.Marks.{mark_at_lem, length-with_mark, with_mark-outside, with_mark-small, mark_same, mark_other}
use Rattle.maps.proofs.Splice.{length-splice, splice-inside, splice-outside, splice-bytes}

pub length-map_bytes : (m : ℕ → Bool) (n : ℕ) → length (map_bytes m n) ≡ n
unfolding map_bytes
length-map_bytes m zero = refl
length-map_bytes m (suc n) = rw (length-append (map_bytes m n) _, length-map_bytes m n) (omega arith)

pub map_bytes_ext : (m m' : ℕ → Bool) (n : ℕ) → ((i : ℕ) → i < 8 * n → m i ≡ m' i) → map_bytes m n ≡ map_bytes m' n
unfolding map_bytes
map_bytes_ext m m' zero e = refl
map_bytes_ext m m' (suc n) e =
    rw (map_bytes_ext m m' n (λ i h. e i (omega arith)), bits_ext (λ i. m (8 * n + i)) (λ i. m' (8 * n + i)) 8 (λ i h. e (8 * n + i) (omega arith)))

pub map_bytes-at : (m : ℕ → Bool) (n j : ℕ) → j < n → get_or (map_bytes m n) j 0 ≡ bits_of (λ i. m (8 * j + i)) 8
unfolding map_bytes
map_bytes-at m (suc n) j h = go (eq? j n) (map_bytes-at m n j)
  where
    b : ℕ
    b = bits_of (λ i. m (8 * n + i)) 8

    go : (j ≡ n) ⊎ (j ≢ n) → (j < n → get_or (map_bytes m n) j 0 ≡ bits_of (λ i. m (8 * j + i)) 8) → get_or (map_bytes m n ++ (b ∷ [])) j 0 ≡ bits_of (λ i. m (8 * j + i)) 8
    go (inl p) ih = rw p (get_or_at (map_bytes m n) b [] 0 n (length-map_bytes m n))
    go (inr d) ih = get_or-append (map_bytes m n) (b ∷ []) 0 j (omega (arith, length-map_bytes m n)) ∙ ih (omega arith)
map_bytes-at m zero j h = elim h [ ]

pub map_bytes-bytes : (m : ℕ → Bool) (n : ℕ) → Bytes (map_bytes m n)
map_bytes-bytes m n j = ⊎_elim
    (λ (h : j < n). rw (map_bytes-at m n j h) (byte_small (λ i. m (8 * j + i))))
    (λ (h : n ≤ j). rw (get_or-eq_default (map_bytes m n) 0 {n = j} (rw (length-map_bytes m n) h)) (lit< tt))
    (lt? j n)

-- the map at base, of n bytes that lie inside the pool
module _ (s : List ℕ) (base n : ℕ) (fits : base + n ≤ length s) where
  module _ (m : ℕ → Bool) where
    room : base + length (map_bytes m n) ≤ length s
    room = omega (arith, length-map_bytes m n)

    pub length-map : length (splice s base (map_bytes m n)) ≡ length s
    length-map = length-splice s (map_bytes m n) base room

    pub map-inside : (j : ℕ) → j < n → get_or (splice s base (map_bytes m n)) (base + j) 0 ≡ bits_of (λ i. m (8 * j + i)) 8
    map-inside j h = splice-inside s (map_bytes m n) base room j (omega (arith, length-map_bytes m n)) ∙ map_bytes-at m n j h

    pub map-outside : (j : ℕ) → Out base n j → get_or (splice s base (map_bytes m n)) j 0 ≡ get_or s j 0
    map-outside j h = splice-outside s (map_bytes m n) base room j (rw (length-map_bytes m n) h)

    pub map-mark : (i : ℕ) → i < 8 * n → mark (splice s base (map_bytes m n)) base i ≡ m i
    unfolding mark
    map-mark i h =
        let e : 8 * (i / 8) + i % 8 ≡ i = omega arith in
        rw (map-inside (i / 8) (omega arith)) (bit_byte (λ k. m (8 * (i / 8) + k)) (i % 8) (omega arith) ∙ ap m e)

    pub map_bytes_lem : Bytes s → Bytes (splice s base (map_bytes m n))
    map_bytes_lem B = splice-bytes s (map_bytes m n) base room B (map_bytes-bytes m n)

    -- the only pool with these marks that is s outside the map
    pub map_unique : (t : List ℕ) → length t ≡ length s → ((j : ℕ) → Out base n j → get_or t j 0 ≡ get_or s j 0)
        → ((j : ℕ) → j < n → get_or t (base + j) 0 < 256) → ((i : ℕ) → i < 8 * n → mark t base i ≡ m i) → t ≡ splice s base (map_bytes m n)
    map_unique t l o B e = ext_get_or 0 t _ (l ∙ sym length-map) (λ j h. go j (in? base n j))
      where
        go : (j : ℕ) → ((base ≤ j) × (j < base + n)) ⊎ Out base n j → get_or t j 0 ≡ get_or (splice s base (map_bytes m n)) j 0
        go j (inr h) = o j h ∙ sym (map-outside j h)
        go j (inl h) =
            let q : ℕ = j - base in
            let d : j ≡ base + q = omega arith in
            rw (d, map-inside q (omega arith))
            (byte_is (get_or t (base + q) 0) (λ i. m (8 * q + i)) (B q (omega arith)) (λ i u. sym (mark_at_lem t base q i u) ∙ e (8 * q + i) (omega arith)))

  -- a mark written into a map that was written
  pub map-with_mark : (m : ℕ → Bool) (i : ℕ) (v : Bool) → i < 8 * n → with_mark (splice s base (map_bytes m n)) base i v ≡ splice s base (map_bytes (upd m i v) n)
  map-with_mark m i v h =
      map_unique (upd m i v) (with_mark t base i v) (length-with_mark t base i v ∙ length-map m)
      (λ j o. with_mark-outside t base i v j (⊎_elim (λ k. omega arith) (λ k. omega arith) o) ∙ map-outside m j o)
      (λ j l. with_mark-small t base i v (base + j) (rw (map-inside m j l) (byte_small (λ k. m (8 * j + k)))))
      (λ k l. go k l (eq? k i))
    where
      t : List ℕ
      t = splice s base (map_bytes m n)

      go : (k : ℕ) → k < 8 * n → (k ≡ i) ⊎ (k ≢ i) → mark (with_mark t base i v) base k ≡ upd m i v k
      go k l (inl e) = rw (e, upd_same m i v) (mark_same t base i v (omega (arith, length-map m)))
      go k l (inr d) = mark_other t base i v k d ∙ map-mark m k l ∙ sym (upd_other m i v k d)
