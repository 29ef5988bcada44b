-- When two pools show the same fields, when fields are sound, and what fields read from bytes keep to.
use Rattle.std.specs.Prelude.{◌≡◌, true, false, ℕ, ◌-◌, ◌%◌, ◌^◌, ◌≤◌, ◌<◌}
use Rattle.records.specs.Fits.{ClassFits}
use Rattle.image.specs.Image.{Same}
use Rattle.model.specs.Classes.{chunks}
use Rattle.maps.specs.Bitmap.{bits_of}
use Rattle.rules.specs.Fields.{Fields, kind, class, map}
use Rattle.rules.specs.Rules.{rule2, rule3, rule4, rule5, rule6}

-- two pools of n pages show the same; marks count on class pages only
pub record Agree (n : ℕ) (v u : Fields) : Type 0 where
  pub image_same : Same n v.image u.image
  pub spare : (p : ℕ) → p < n → v.spare p ≡ u.spare p
  pub marks : (p : ℕ) → p < n → kind v p ≡ 2 → v.mark p ≡ u.mark p

pub record Holds (v : Fields) (n : ℕ) : Type 0 where
  pub two : rule2 v n ≡ true
  pub three : rule3 v n ≡ true
  pub four : rule4 v n ≡ true
  pub five : rule5 v n ≡ true
  pub six : rule6 v n ≡ true

-- what the encoding gives: no marks past the chunks; the map field of a class that keeps its map there, its unused low bits 0, is that of
-- the marks; class records of fields that have their widths
pub record Bounds (v : Fields) (n : ℕ) : Type 0 where
  pub marks : (p : ℕ) → p < n → kind v p ≡ 2 → (i : ℕ) → chunks (class v p) ≤ i → v.mark p i ≡ false
  pub maps : (p : ℕ) → p < n → kind v p ≡ 2 → 3 ≤ class v p → class v p ≤ 8 → map v p % 2 ^ (64 - chunks (class v p)) ≡ 0 →
      map v p ≡ bits_of (v.mark p) 64
  pub class : (c : ℕ) → c < 9 → ClassFits (v.image.class c)
