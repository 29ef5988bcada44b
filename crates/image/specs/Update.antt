-- An image with one field changed.
use Rattle.std.specs.Prelude.{ℕ}
use Rattle.base.specs.Functions.{upd}
use Rattle.records.specs.declared.ClassRecord.{ClassRecord}
use Rattle.image.specs.Image.{Image}

abbrev pub set_free : (I : Image) (n : ℕ) → Image
set_free I n = record { free_pages = n; first_run = I.first_run; class = I.class; map = I.map; links = I.links }

abbrev pub set_first_run : (I : Image) (p : ℕ) → Image
set_first_run I p = record { free_pages = I.free_pages; first_run = p; class = I.class; map = I.map; links = I.links }

abbrev pub set_class : (I : Image) (c : ℕ) (r : ClassRecord) → Image
set_class I c r = record { free_pages = I.free_pages; first_run = I.first_run; class = upd I.class c r; map = I.map; links = I.links }

abbrev pub set_map : (I : Image) (p v : ℕ) → Image
set_map I p v = record { free_pages = I.free_pages; first_run = I.first_run; class = I.class; map = upd I.map p v; links = I.links }
