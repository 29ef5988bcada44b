-- A chunk that is found is of one of the nine classes, of one of the pages, and one of its page's chunks.
use Rattle.std.specs.Prelude.{Result, Ok, Err}
use mathlib.Core.Path.{◌≡◌, refl}
use mathlib.Core.Bool.{Bool, true, false}
use mathlib.Core.List.{List}
use Prim.Native.Nat.{ℕ, ◌/◌, ◌%◌, ◌≤◌, ◌<◌}
use native.Mathlib.Nat.{mul_comm, div-add-mod'}
use native.Mathlib.Omega.{arith}
use lib.Dec.{eqb, leb, ltb}
use borrow.Author.Tests.{leb-true, leb-false}
use Rattle.base.specs.Tests.{pick}
use Rattle.records.specs.declared.Links.{Links}
use Rattle.records.specs.Page.{links_at}
use Rattle.model.specs.Classes.{chunk, chunks, own}
use Rattle.model.proofs.Classes.{chunk_index}
use Rattle.classes.proofs.Numbers.{chunks_512}
use Rattle.answers.specs.declared.Refusal.{Refusal}
use Rattle.locate.specs.declared.Found.{Found}
use Rattle.locate.specs.Mirror.{past_found, start_found, sized_found, offset_found, class_found, run_found, kind_found, page_found, located}
use Rattle.free_sound.specs.Mirror.{Classed}

either : (P : ℕ) (t : Bool) (a b : Result Found Refusal) → (t ≡ true → Classed P a) → (t ≡ false → Classed P b) → Classed P (pick t a b)
unfolding pick
either P true a b h k = h refl
either P false a b h k = k refl

-- a page has as many chunks as fill it
index : (c q : ℕ) → c ≤ 8 → q < 4096 → q / chunk c % 65536 < chunks c
index c q h l =
    let i : q / chunk c < chunks c = chunk_index c h (q / chunk c) (omega (arith, mul_comm (q / chunk c) (chunk c), div-add-mod' q (chunk c))) in
    omega (arith, chunks_512 c)

-- q bytes into a class page
in_class : (P c p q : ℕ) → p < P → q < 4096 → Classed P (class_found c p q)
unfolding past_found start_found sized_found offset_found class_found
in_class P c p q l m =
    let i : ℕ = q / chunk c % 65536 in
    either P (leb c 8) _ _ (λ h.
    either P (eqb (q % chunk c) 0) _ _ (λ _.
    either P (ltb i (own c)) _ _ (λ _. tt) (λ _. (leb-true c 8 h, l, index c q (leb-true c 8 h) m))) (λ _. tt)) (λ _. tt)

pub found_classed : (w : ℕ) (s : List ℕ) (P off : ℕ) → P ≤ 65536 → Classed P (located w s P off)
unfolding run_found kind_found page_found located
found_classed w s P off few =
    let p : ℕ = off / 4096 % 65536 in
    let l : Links = links_at w s p in
    either P (leb P (off / 4096)) _ _ (λ _. tt) (λ below.
    either P (leb l.kind 1) _ _ (λ _. tt) (λ _.
    either P (eqb l.kind 2) _ _ (λ _. in_class P l.class p (off % 4096) (omega (arith, leb-false P (off / 4096) below)) (omega arith)) (λ _.
    either P (eqb l.kind 3) _ _ (λ _. either P (eqb (off % 4096) 0) _ _ (λ _. tt) (λ _. tt)) (λ _. tt))))
