-- An answer reads back from its word: a granted one has a value of 32 bits, and the refusals of a call are told apart by their numbers.
use Rattle.std.specs.Prelude.{Result, Ok, Err}
use mathlib.Core.Path.{◌≡◌, refl, ap, ◌∙◌}
use mathlib.Core.Bool.{Bool, true, false, ◌&&◌, not}
use mathlib.Core.List.{List}
use Prim.Native.Nat.{ℕ, zero, suc, ◌+◌, ◌*◌, ◌/◌, ◌%◌, ◌≤◌, ◌<◌}
use native.Mathlib.Nat.{mul-le-mul_left}
use native.Mathlib.Omega.{arith}
use lib.Dec.{eqb, leb, ltb}
use borrow.Author.Tests.{lt-ltb, ltb-true, leb-true, not-false}
use Rattle.base.specs.Tests.{pick}
use Rattle.base.specs.Search.{least, any}
use Rattle.base.proofs.AllBelow.{pick_yes}
use Rattle.base.proofs.Cases.{and_true}
use Rattle.base.proofs.Search.{least_spec, any_false}
use Rattle.answers.specs.Outcome.{Outcome, granted, refused}
use Rattle.answers.specs.declared.Refusal.TheVariants.{NoRoom, Outside, NotTaken, NotAStart, NothingAsked}
use Rattle.answer_words.specs.Word.{word_of}
use Rattle.records.specs.Layout.{no_page}
use Rattle.records.specs.declared.Links.{Links}
use Rattle.records.specs.Header.{header_at, unpack_header}
use Rattle.records.specs.Page.{links_at, unpack_links}
use Rattle.model.specs.Classes.{chunk, chunks, own, pages_for}
use Rattle.maps.specs.Bitmap.{mark}
use Rattle.maps.specs.Mirror.{lowest_clear}
use Rattle.lists.specs.Mirror.{first_of}
use Rattle.rules.specs.Bytes.{map_base}
use Rattle.map_count.specs.Mirror.{map_bits}
use Rattle.run_extents.specs.Mirror.{fit_from, fit_in}
use Rattle.sizes.specs.Mirror.{up_to64, up_to2048, class_for}
use Rattle.answers.specs.declared.Refusal.{Refusal}
use Rattle.locate.specs.declared.Found.{Found}
use Rattle.locate.specs.Mirror.{past_found, start_found, sized_found, offset_found, class_found, run_found, kind_found, page_found, located}
use Rattle.alloc_sound.specs.Mirror.{lowest_on, chunk_outcome, first_outcome, cut_outcome, new_outcome, from_outcome, class_outcome, run_outcome, pages_outcome, alloc_outcome}
use Rattle.free_sound.specs.Mirror.{marked, found_outcome, free_outcome}
use Rattle.free_sound.specs.Mirror as free
use Rattle.serve.specs.Mirror.{allocated_in, freed_in}

-- a choice, by cases on its test
by_case : {A : Type 0} (Q : A → Type 0) (t : Bool) {a b : A} → (t ≡ true → Q a) → (t ≡ false → Q b) → Q (pick t a b)
unfolding pick
by_case Q true h k = h refl
by_case Q false h k = k refl

-- ---- numbers

-- a chunk's start in its page, up to the last bit of a map, and its size
small : ℕ → Bool
small c = leb (chunk c * map_bits c) 131072 && (leb (chunk c * own c) 131072 && leb (chunk c) 2048)

all_small : any (λ c. not (small c)) 9 ≡ false
unfolding small any least chunk chunks own map_bits pick
all_small = refl

record Small (c : ℕ) : Type 0 where
  last : chunk c * map_bits c ≤ 131072
  first : chunk c * own c ≤ 131072
  size : chunk c ≤ 2048

small-class : (c : ℕ) → c ≤ 8 → Small c
unfolding small
small-class c h =
    let t : small c ≡ true = not-false (small c) (any_false (λ d. not (small d)) 9 all_small c (omega arith)) in
    let (x, u) = and_true _ _ t in
    let (y, z) = and_true _ _ u in
    record { last = leb-true _ _ x; first = leb-true _ _ y; size = leb-true _ _ z }

at_most : (m : ℕ) (t : Bool) {a b : ℕ} → a ≤ m → b ≤ m → pick t a b ≤ m
at_most m t h k = by_case (λ x. x ≤ m) t (λ _. h) (λ _. k)

class_bound : (n : ℕ) → class_for n ≤ 8
unfolding class_for up_to64 up_to2048
class_bound n =
    at_most 8 (leb n 64)
    (at_most 8 (leb n 8) (omega arith) (at_most 8 (leb n 16) (omega arith) (at_most 8 (leb n 32) (omega arith) (omega arith))))
    (at_most 8 (leb n 128) (omega arith)
    (at_most 8 (leb n 256) (omega arith) (at_most 8 (leb n 512) (omega arith) (at_most 8 (leb n 1024) (omega arith) (omega arith)))))

fit_bound : (w : ℕ) (s : List ℕ) (fuel k p : ℕ) → p ≤ 65535 → fit_from w s fuel k p ≤ 65535
unfolding fit_from links_at unpack_links
fit_bound w s zero k p h = omega arith
fit_bound w s (suc fuel) k p h =
    at_most 65535 (eqb p no_page) (omega arith)
    (at_most 65535 (leb k (links_at w s p).run) h (fit_bound w s fuel k (links_at w s p).next.0 (omega arith)))

-- ---- an alloc's answer

abbrev AllocBack : Outcome → Type 0
AllocBack o = allocated_in (word_of o) ≡ o

offset-back : (v : ℕ) → v < 4294967296 → AllocBack (granted v)
unfolding allocated_in
offset-back v h = let e : word_of (granted v) ≡ v = omega arith in ap allocated_in e ∙ pick_yes _ _ _ (lt-ltb v 4294967296 h)

no_room_lem : AllocBack (refused NoRoom)
unfolding allocated_in pick
no_room_lem = refl

nothing_asked_lem : AllocBack (refused NothingAsked)
unfolding allocated_in pick
nothing_asked_lem = refl

module _ (w : ℕ) (s : List ℕ) (P : ℕ) (few : P ≤ 65535) where
  page_bound : (k : ℕ) → fit_in w s P k ≤ 65535
  unfolding fit_in header_at unpack_header
  page_bound k = fit_bound w s P k (header_at s).first_run.0 (omega arith)

  lowest_bound : (c p : ℕ) → c ≤ 8 → chunk c * lowest_on w s P c p ≤ 131072
  unfolding lowest_on lowest_clear
  lowest_bound c p h =
      omega (arith, (small-class c h).last, mul-le-mul_left (chunk c) (least_spec (λ j. not (mark s (map_base w P p c) j)) (map_bits c)).at_most)

  class_back : (c : ℕ) → c ≤ 8 → AllocBack (class_outcome w s P c)
  unfolding chunk_outcome first_outcome cut_outcome new_outcome from_outcome class_outcome
  class_back c h =
      by_case AllocBack (ltb (first_of w s (1 + c)) P)
      (λ l. offset-back _ (omega (arith, ltb-true (first_of w s (1 + c)) P l, lowest_bound c (first_of w s (1 + c)) h)))
      (λ _. by_case AllocBack (eqb (fit_in w s P 1) no_page) (λ _. no_room_lem) (λ _. offset-back _ (omega (arith, page_bound 1, (small-class c h).first))))

  pages-back : (k : ℕ) → AllocBack (pages_outcome w s P k)
  unfolding run_outcome pages_outcome
  pages-back k = by_case AllocBack (eqb (fit_in w s P k) no_page) (λ _. no_room_lem) (λ _. offset-back _ (omega (arith, page_bound k)))

  pub alloc-back : (n : ℕ) → AllocBack (alloc_outcome w s P n)
  unfolding alloc_outcome
  alloc-back n =
      by_case AllocBack (eqb n 0) (λ _. nothing_asked_lem)
      (λ _. by_case AllocBack (leb n 2048) (λ _. class_back (class_for n) (class_bound n)) (λ _. pages-back (pages_for n)))

-- ---- a free's answer

abbrev FreeBack : Outcome → Type 0
FreeBack o = freed_in (word_of o) ≡ o

bytes_back : (v : ℕ) → v < 4294967296 → FreeBack (granted v)
unfolding freed_in
bytes_back v h = let e : word_of (granted v) ≡ v = omega arith in ap freed_in e ∙ pick_yes _ _ _ (lt-ltb v 4294967296 h)

outside : FreeBack (refused Outside)
unfolding freed_in pick
outside = refl

not_taken : FreeBack (refused NotTaken)
unfolding freed_in pick
not_taken = refl

no_start : FreeBack (refused NotAStart)
unfolding freed_in pick
no_start = refl

module _ (w : ℕ) (s : List ℕ) (P : ℕ) where
  abbrev FoundBack : Result Found Refusal → Type 0
  FoundBack f = FreeBack (found_outcome w s P f)

  chunk_back_lem : (c p i : ℕ) → c ≤ 8 → FreeBack (free.chunk_outcome w s P c p i)
  unfolding free.chunk_outcome
  chunk_back_lem c p i h = by_case FreeBack (marked w s P c p i) (λ _. bytes_back _ (omega (arith, (small-class c h).size))) (λ _. not_taken)

  in_class : (c p q : ℕ) → FoundBack (class_found c p q)
  unfolding past_found start_found sized_found offset_found class_found
  in_class c p q =
      let i : ℕ = q / chunk c % 65536 in
      by_case FoundBack (leb c 8)
      (λ h. by_case FoundBack (eqb (q % chunk c) 0)
      (λ _. by_case FoundBack (ltb i (own c)) (λ _. no_start) (λ _. chunk_back_lem c p (i % 512) (leb-true c 8 h))) (λ _. no_start)) (λ _. no_start)

  run_back : (p n q : ℕ) → n < 1048576 → FoundBack (run_found p n q)
  unfolding run_found
  run_back p n q h = by_case FoundBack (eqb q 0) (λ _. bytes_back (4096 * n) (omega arith)) (λ _. no_start)

  kind_back : (p q : ℕ) (l : Links) → l.run < 1048576 → FoundBack (kind_found p q l)
  unfolding kind_found
  kind_back p q l h =
      by_case FoundBack (leb l.kind 1) (λ _. not_taken)
      (λ _. by_case FoundBack (eqb l.kind 2) (λ _. in_class l.class p q)
      (λ _. by_case FoundBack (eqb l.kind 3) (λ _. run_back p l.run q h) (λ _. no_start)))

  run_few : (p : ℕ) → (links_at w s p).run < 1048576
  unfolding links_at unpack_links
  run_few p = omega arith

  pub free_back : (off : ℕ) → FreeBack (free_outcome w s P off)
  unfolding page_found located free_outcome
  free_back off =
      let p : ℕ = off / 4096 % 65536 in
      by_case FoundBack (leb P (off / 4096)) (λ _. outside) (λ _. kind_back p (off % 4096) (links_at w s p) (run_few p))
