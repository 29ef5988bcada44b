-- Packing and unpacking undo each other.
use mathlib.Core.Path.{◌≡◌}
use Prim.Native.Nat.{ℕ, ◌+◌, ◌*◌, ◌/◌, ◌%◌, ◌<◌}
use native.Mathlib.Omega.{arith}
use native.Mathlib.Nat.{div-div-eq-div-mul, div-add-mod', mod-lt}
use lib.Dec.{lit<}
use Rattle.records.specs.declared.Header.{Header}
use Rattle.records.specs.declared.ClassRecord.{ClassRecord}
use Rattle.records.specs.declared.Links.{Links}
use Rattle.records.specs.Header.{pack_header, unpack_header}
use Rattle.records.specs.Fits.{HeaderFits, ClassFits, LinksFit}
use Rattle.records.specs.Class.{pack_counts, pack_tally, unpack_class}
use Rattle.records.specs.Mirror.{first_to}
use Rattle.records.specs.Page.{pack_links, unpack_links}

-- another first page
pub first_fits : (r : ClassRecord) (p : ℕ) → ClassFits r → p < 65536 → ClassFits (first_to r p)
first_fits r p F h = record { first = h; used = F.used; total = F.total; reqs = F.reqs; fails = F.fails }

-- a number over m is its part over m n and the digit between, so the digits of a word are put together one at a time
digit : (v m n : ℕ) → v / (m * n) * n + v / m % n ≡ v / m
digit v m n = rw (← div-div-eq-div-mul v m n) (div-add-mod' (v / m) n)

-- ---- the header

pub unpack_pack_header : (h : Header) → HeaderFits h → unpack_header (pack_header h) ≡ h
unfolding pack_header unpack_header
unpack_pack_header h F =
    let e : pack_header h / 72057594037927936 % 256 ≡ h.edition = omega arith in
    let m : pack_header h / 4503599627370496 % 16 ≡ h.min_shift = omega arith in
    let g : pack_header h / 281474976710656 % 16 ≡ h.page_shift = omega arith in
    let p : pack_header h / 4294967296 % 65536 ≡ h.pages = omega arith in
    let f : pack_header h / 65536 % 65536 ≡ h.free_pages = omega arith in
    let r : pack_header h % 65536 ≡ h.first_run.0 = omega arith in
    λ i. record { edition = e i; min_shift = m i; page_shift = g i; pages = p i; free_pages = f i; first_run = record { 0 = r i } }

header_digits : (v a b c d e r f p g m : ℕ) → a * 65536 + r ≡ v → b * 65536 + f ≡ a → c * 65536 + p ≡ b → d * 16 + g ≡ c → e * 16 + m ≡ d → e < 256 → g < 16 → m < 16
    → e % 256 * 72057594037927936 + m % 16 * 4503599627370496 + g % 16 * 281474976710656 + p * 4294967296 + f * 65536 + r ≡ v
header_digits v a b c d e r f p g m h0 h1 h2 h3 h4 h5 h6 h7 = omega arith

pub pack_unpack_header : (v : ℕ) → v < 18446744073709551616 → pack_header (unpack_header v) ≡ v
unfolding pack_header unpack_header
pack_unpack_header v h =
    header_digits v _ _ _ _ _ _ _ _ _ _ (div-add-mod' v 65536) (digit v 65536 65536) (digit v 4294967296 65536) (digit v 281474976710656 16)
    (digit v 4503599627370496 16) (omega arith) (mod-lt _ (lit< tt)) (mod-lt _ (lit< tt))

-- ---- a class record

pub unpack_pack_class : (r : ClassRecord) → ClassFits r → unpack_class (pack_counts r) (pack_tally r) ≡ r
unfolding pack_counts pack_tally unpack_class
unpack_pack_class r F =
    let a : pack_counts r / 281474976710656 % 65536 ≡ r.first.0 = omega arith in
    let b : pack_counts r / 16777216 % 16777216 ≡ r.used = omega arith in
    let c : pack_counts r % 16777216 ≡ r.total = omega arith in
    let d : pack_tally r / 4294967296 % 4294967296 ≡ r.reqs = omega arith in
    let e : pack_tally r % 4294967296 ≡ r.fails = omega arith in
    λ i. record { first = record { 0 = a i }; used = b i; total = c i; reqs = d i; fails = e i }

pub pack_unpack_counts : (v t : ℕ) → v < 18446744073709551616 → pack_counts (unpack_class v t) ≡ v
unfolding pack_counts unpack_class
pack_unpack_counts v t h = omega arith

pub pack_unpack_tally : (v t : ℕ) → t < 18446744073709551616 → pack_tally (unpack_class v t) ≡ t
unfolding pack_tally unpack_class
pack_unpack_tally v t h = omega arith

-- ---- a page's links

pub unpack_pack_links : (l : Links) → LinksFit l → unpack_links (pack_links l) ≡ l
unfolding pack_links unpack_links
unpack_pack_links l F =
    let k : pack_links l / 2305843009213693952 % 8 ≡ l.kind = omega arith in
    let c : pack_links l / 144115188075855872 % 16 ≡ l.class = omega arith in
    let r : pack_links l / 2199023255552 % 65536 ≡ l.run = omega arith in
    let n : pack_links l / 33554432 % 65536 ≡ l.next.0 = omega arith in
    let p : pack_links l / 512 % 65536 ≡ l.prev.0 = omega arith in
    λ i. record { kind = k i; class = c i; run = r i; next = record { 0 = n i }; prev = record { 0 = p i } }

links-digits : (v a b c d e p n r k : ℕ) → a * 512 ≡ v → b * 65536 + p ≡ a → c * 65536 + n ≡ b → d * 65536 + r ≡ c → e * 16 + k ≡ d → e < 8 → k < 16
    → e % 8 % 8 * 2305843009213693952 + k % 16 * 144115188075855872 + r * 2199023255552 + n * 33554432 + p * 512 ≡ v
links-digits v a b c d e p n r k h0 h1 h2 h3 h4 h5 h6 = omega arith

-- the nine low bits are zero bits
pub pack_unpack_links : (v : ℕ) → v < 18446744073709551616 → v % 512 ≡ 0 → pack_links (unpack_links v) ≡ v
unfolding pack_links unpack_links
pack_unpack_links v h z =
    links-digits v _ _ _ _ _ _ _ _ _ (omega arith) (digit v 512 65536) (digit v 33554432 65536) (digit v 2199023255552 65536)
    (digit v 144115188075855872 16) (omega arith) (mod-lt _ (lit< tt))

-- ---- what is unpacked fits

pub unpacked_class-fits : (v t : ℕ) → ClassFits (unpack_class v t)
unfolding unpack_class
unpacked_class-fits v t = omega arith

-- ---- what is packed is a word

pub header_small : (h : Header) → HeaderFits h → pack_header h < 18446744073709551616
unfolding pack_header
header_small h F = omega arith

pub counts-small : (r : ClassRecord) → ClassFits r → pack_counts r < 18446744073709551616
unfolding pack_counts
counts-small r F = omega arith

pub tally-small : (r : ClassRecord) → ClassFits r → pack_tally r < 18446744073709551616
unfolding pack_tally
tally-small r F = omega arith

pub links-small : (l : Links) → LinksFit l → pack_links l < 18446744073709551616
unfolding pack_links
links-small l F = omega arith
