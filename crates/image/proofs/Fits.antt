-- An image whose fields are numbers of their widths, and that its changes keep it so.
use Prim.Native.Nat.{ℕ, ◌≤◌, ◌<◌}
use native.Mathlib.Omega.{arith}
use Rattle.base.proofs.Functions.{upd-keeps}
use Rattle.records.specs.declared.ClassRecord.{ClassRecord}
use Rattle.records.specs.declared.Links.{Links}
use Rattle.records.specs.Fits.{HeaderFits, ClassFits, LinksFit}
use Rattle.image.specs.Image.{Image, header_of, set_links}
use Rattle.image.specs.Update.{set_free, set_first_run, set_class}

pub record Fits (P : ℕ) (I : Image) : Type 0 where
  pub free_pages : I.free_pages < 65536
  pub first_run : I.first_run < 65536
  pub class : (c : ℕ) → c < 9 → ClassFits (I.class c)
  pub links : (p : ℕ) → p < P → LinksFit (I.links p)

pub header_fits : (w P n p : ℕ) → w ≤ 255 → P < 65536 → n < 65536 → p < 65536 → HeaderFits (header_of w P n p)
header_fits w P n p a b c d =
    record { edition = omega arith; min_shift = omega arith; page_shift = omega arith; pages = b; free_pages = c; first_run = d }

module _ {P : ℕ} {I : Image} (F : Fits P I) where
  pub fits-free : (n : ℕ) → n < 65536 → Fits P (set_free I n)
  fits-free n h = record { free_pages = h; first_run = F.first_run; class = F.class; links = F.links }

  pub fits-first_run : (p : ℕ) → p < 65536 → Fits P (set_first_run I p)
  fits-first_run p h = record { free_pages = F.free_pages; first_run = h; class = F.class; links = F.links }

  pub fits-class : (c : ℕ) (r : ClassRecord) → (c < 9 → ClassFits r) → Fits P (set_class I c r)
  fits-class c r h = record {
    free_pages = F.free_pages;
    first_run = F.first_run;
    class = upd-keeps (λ d x. d < 9 → ClassFits x) F.class c r h;
    links = F.links;
  }

  pub fits-links : (p : ℕ) (l : Links) → (p < P → LinksFit l) → Fits P (set_links I p l)
  fits-links p l h = record {
    free_pages = F.free_pages;
    first_run = F.first_run;
    class = F.class;
    links = upd-keeps (λ q x. q < P → LinksFit x) F.links p l h;
  }
