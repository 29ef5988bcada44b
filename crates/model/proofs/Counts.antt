-- The counts that a well-formed state shows, used and total, are those of its live set.
use mathlib.Core.Path.{◌≡◌, refl, sym, ap, ◌∙◌, subst}
use mathlib.Core.Logic.{inl, inr, ◌≢◌}
use mathlib.Core.Bool.{Bool, true, false, ◌&&◌, and-false}
use mathlib.Core.List.{List, [], ◌∷◌}
use Prim.Native.Nat.{ℕ, ◌+◌, ◌*◌, ◌≤◌, ◌<◌}
use native.Mathlib.Omega.{arith}
use lib.Dec.{eqb, leb}
use borrow.Author.Tests.{leb-true, eqb-true, le-leb, eq-eqb, ne_eqb}
use Rattle.base.specs.Count.{sum, bit, count}
use Rattle.base.specs.Lists.{Mem, NoDup, has}
use Rattle.base.proofs.Cases.{never, decided, same_test, and_true}
use Rattle.base.proofs.Count.{sum_ext, sum-zero, sum_bump}
use Rattle.base.proofs.Lists.{has-mem, mem-has}
use Rattle.model.specs.Classes.{chunk, chunks, own, counted}
use Rattle.model.specs.State.{Page, idle, slab, taken, inside, edge, State, marks_of}
use Rattle.model.specs.WellFormed.{WellFormed}
use Rattle.model.specs.Live.{Block, small, offset, On, Live, LiveSet}
use Rattle.model.specs.View.{Kind, is_class, total_in, kind_of, used_of}
use Rattle.model.specs.Expected.{kind_at, of_class, used_in}
use Rattle.model.proofs.Classes.{chunk-pos, chunk_inj, chunk-ends}
use Rattle.model.proofs.Table.{in_table, slab_ok}
use Rattle.model.proofs.Blocks.{live_same}
use Rattle.model.proofs.Shown.{page-shown}

-- ---- blocks of class c by offset

abbrev is_here : ℕ → ℕ → Block → Bool
is_here c off e = of_class c e && eqb (offset e) off

-- a block of class c begins at the offset
here : ℕ → List Block → ℕ → Bool
here c B off = has (is_here c off) B

here_mem : (c : ℕ) (B : List Block) (off : ℕ) → here c B off ≡ true → (e : Block) × Mem e B × (of_class c e ≡ true) × (offset e ≡ off)
unfolding here
here_mem c B off h =
    let (e, m, z) = has-mem (is_here c off) B h in
    let (a, b) = and_true (of_class c e) (eqb (offset e) off) z in
    (e, m, a, eqb-true (offset e) off b)

here_at : (c : ℕ) (B : List Block) (e : Block) → Mem e B → of_class c e ≡ true → here c B (offset e) ≡ true
unfolding here
here_at c B e m k = mem-has (is_here c (offset e)) B e m (rw (k, eq-eqb (offset e) (offset e) refl))

-- ---- the number of blocks of class c, counted by page and chunk

module _ (P c : ℕ) where
  spot : List Block → ℕ → ℕ → Bool
  spot B p i = leb (own c) i && here c B (4096 * p + chunk c * i)

  -- a block of class c has its place
  Placed : Block → Type 0
  Placed e = of_class c e ≡ true → (p : ℕ) × (i : ℕ) × (c ≤ 8) × (p < P) × (own c ≤ i) × (i < chunks c) × (offset e ≡ 4096 * p + chunk c * i)

  by_place : (B : List Block) → NoDup B → ((d e : Block) → Mem d B → Mem e B → offset d ≡ offset e → d ≡ e) → ((e : Block) → Mem e B → Placed e) →
      sum (λ p. count (spot B p) (chunks c)) P ≡ used_in B c
  unfolding spot Placed here count
  by_place [] once same placed = sum-zero (λ p. count (spot [] p) (chunks c)) P (λ p l. sum-zero (λ i. bit (spot [] p i)) (chunks c) (λ i u. ap bit (and-false (leb (own c) i))))
  by_place (e ∷ B) once same placed =
      go (of_class c e) refl (by_place B once.1 (λ d f m n. same d f (inr m) (inr n)) (λ d m. placed d (inr m)))
    where
      go : (t : Bool) → of_class c e ≡ t → sum (λ p. count (spot B p) (chunks c)) P ≡ used_in B c →
          sum (λ p. count (spot (e ∷ B) p) (chunks c)) P ≡ used_in B c + bit t
      go false k ih =
          let z : sum (λ p. count (spot (e ∷ B) p) (chunks c)) P ≡ sum (λ p. count (spot B p) (chunks c)) P =
          sum_ext (λ p. count (spot (e ∷ B) p) (chunks c)) (λ p. count (spot B p) (chunks c)) P
          (λ p l. sum_ext (λ i. bit (spot (e ∷ B) p i)) (λ i. bit (spot B p i)) (chunks c) (λ i u. rw k)) in
          omega arith
      go true k ih =
          let (p, i, ok, pl, o, il, z) = placed e (inl refl) k in
          bump ok p i pl o il z
        where
          unlike : (p i : ℕ) → offset e ≢ 4096 * p + chunk c * i → bit (spot (e ∷ B) p i) ≡ bit (spot B p i)
          unlike p i d = rw (ne_eqb (offset e) (4096 * p + chunk c * i) d, and-false (of_class c e))

          unseen : (off : ℕ) → offset e ≡ off → here c B off ≡ false
          unseen off z = decided (here c B off) (λ t. let (d, m, x, y) = here_mem c B off t in once.0 (subst (λ (b : Block). Mem b B) (same d e (inr m) (inl refl) (y ∙ sym z)) m))

          bump : c ≤ 8 → (p i : ℕ) → p < P → own c ≤ i → i < chunks c → offset e ≡ 4096 * p + chunk c * i → sum (λ p. count (spot (e ∷ B) p) (chunks c)) P ≡ used_in B c + 1
          bump ok p i pl o il z =
              let w : sum (λ p. count (spot (e ∷ B) p) (chunks c)) P ≡ sum (λ p. count (spot B p) (chunks c)) P + 1 =
              sum_bump (λ p. count (spot B p) (chunks c)) (λ p. count (spot (e ∷ B) p) (chunks c)) P p pl
              (λ q l d. sum_ext (λ i. bit (spot (e ∷ B) q i)) (λ i. bit (spot B q i)) (chunks c)
              (λ j u. unlike q j (λ y. d (omega (arith, chunk-pos c, chunk-ends c ok i il, chunk-ends c ok j u)))))
              (sum_bump (λ i. bit (spot B p i)) (λ i. bit (spot (e ∷ B) p i)) (chunks c) i il
              (λ j u d. unlike p j (λ y. d (chunk_inj c j i (omega arith))))
              (rw (le-leb (own c) i o, k, eq-eqb (offset e) (4096 * p + chunk c * i) z, unseen (4096 * p + chunk c * i) z))) in
              omega arith

-- ---- used and total

-- chunk i of the page is marked, and the page is of class c
abbrev marked : ℕ → Page → ℕ → Bool
marked c x i = is_class c (kind_of x) && marks_of x i

marked-is : (c : ℕ) (y : Page) (i : ℕ) → marked c y i ≡ true → (m : ℕ → Bool) × (y ≡ slab c m) × (m i ≡ true)
marked-is c idle i e = absurd (never (cc))
marked-is c (slab d m) i e = let (a, b) = and_true (eqb d c) (m i) e in (m, ap (λ (z : ℕ). slab z m) (eqb-true d c a), b)
marked-is c (taken n) i e = absurd (never (cc))
marked-is c inside i e = absurd (never (cc))
marked-is c edge i e = absurd (never (cc))

-- a block of class c on a page: the page is of class c, and the block is one of its marked chunks
class_on : (c p : ℕ) (y : Page) (e : Block) → On y p e → of_class c e ≡ true →
    (m : ℕ → Bool) × (i : ℕ) × (y ≡ slab c m) × (own c ≤ i) × (i < chunks c) × (m i ≡ true) × (offset e ≡ 4096 * p + chunk c * i)
unfolding On
class_on c p (slab d m) e (i, r, o, l, t) k =
    let k' : eqb d c ≡ true = rw r at k in
    let q : d ≡ c = eqb-true d c k' in
    (m, i, ap (λ (z : ℕ). slab z m) q, rw q at o, rw q at l, t, rw q at (ap offset r))
class_on c p (taken n) e r k = let k' : ◌≡◌ {A = Bool} false true = rw r at k in absurd (never (cc))
class_on c p edge e r k = elim r [ ]
class_on c p inside e r k = elim r [ ]
class_on c p idle e r k = elim r [ ]

module _ {B : List Block} (s : State) (wf : WellFormed s) (set : LiveSet B s.page) (c : ℕ) where
  -- a chunk is marked where a block of the class begins
  marked_here : (p i : ℕ) → own c ≤ i → i < chunks c → marked c (s.page p) i ≡ here c B (4096 * p + chunk c * i)
  unfolding Live On
  marked_here p i o l = same_test (marked c (s.page p) i) (here c B (4096 * p + chunk c * i)) there back
    where
      there : marked c (s.page p) i ≡ true → here c B (4096 * p + chunk c * i) ≡ true
      there t =
          let (m, h, u) = marked-is c (s.page p) i t in
          here_at c B (small (4096 * p + chunk c * i) c) (set.all (small (4096 * p + chunk c * i) c) (p, rw h (i, refl, o, l, u))) (eq-eqb c c refl)

      back : here c B (4096 * p + chunk c * i) ≡ true → marked c (s.page p) i ≡ true
      back h =
          let (e, m, k, z) = here_mem c B (4096 * p + chunk c * i) h in
          let (q, x) = set.live e m in
          let (n, j, w, a, b, t, y) = class_on c q (s.page q) e x k in
          at_p q j n w b t (sym z ∙ y) (slab_ok wf.table w).in_range
        where
          at_p : (q j : ℕ) (n : ℕ → Bool) → s.page q ≡ slab c n → j < chunks c → n j ≡ true → 4096 * p + chunk c * i ≡ 4096 * q + chunk c * j → c ≤ 8 → marked c (s.page p) i ≡ true
          at_p q j n w b t y ok =
              let v : q ≡ p = omega (arith, chunk-pos c, chunk-ends c ok i l, chunk-ends c ok j b) in
              let d : j ≡ i = chunk_inj c j i (omega arith) in
              rw (← v, w, eq-eqb c c refl) (rw d at t)

  placed : (e : Block) → Mem e B → Placed s.size c e
  unfolding Placed Live
  placed e m k =
      let (p, x) = set.live e m in
      let (n, i, h, a, b, t, w) = class_on c p (s.page p) e x k in
      (p, i, (slab_ok wf.table h).in_range, in_table wf.table p (λ z. never (cc)), a, b, w)

  pub used-shown : used_of s c ≡ used_in B c
  unfolding used_of spot count
  used-shown =
      sum_ext _ (λ p. count (spot s.size c B p) (chunks c)) s.size
      (λ p l. sum_ext _ (λ i. bit (spot s.size c B p i)) (chunks c) (λ i u. one p i u (leb (own c) i) refl))
      ∙ by_place s.size c B set.once (λ d e m n z. live_same wf.table d e (set.live d m) (set.live e n) z) placed
    where
      one : (p i : ℕ) → i < chunks c → (t : Bool) → leb (own c) i ≡ t → bit (leb (own c) i && marked c (s.page p) i) ≡ bit (leb (own c) i && here c B (4096 * p + chunk c * i))
      one p i u true e = ap (λ (t : Bool). bit (leb (own c) i && t)) (marked_here p i (leb-true (own c) i e) u)
      one p i u false e = rw e

  pub total-shown : total_in (λ p. kind_of (s.page p)) s.size c ≡ total_in (kind_at B) s.size c
  unfolding total_in count
  total-shown =
      ap (λ (n : ℕ). n * counted c)
      (sum_ext (λ p. bit (is_class c (kind_of (s.page p)))) (λ p. bit (is_class c (kind_at B p))) s.size (λ p l. ap (λ (v : Kind). bit (is_class c v)) (page-shown s wf set p)))
