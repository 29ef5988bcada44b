-- The bytes of a state, drawn over other bytes: header, class records, page records, and the maps that lie in pages.
use Rattle.std.specs.Prelude.{ℕ, zero, suc, ◌+◌, ◌-◌, ◌*◌, ◌/◌, ◌%◌, Bool, false, List, [], ◌∷◌, leb, ltb, length, get_or}
use Rattle.base.specs.Tests.{pick}
use Rattle.records.specs.Layout.{pages_from}
use Rattle.records.specs.Class.{peak_at}
use Rattle.model.specs.Classes.{chunks}
use Rattle.model.specs.State.{Page, idle, slab, taken, inside, edge, State, marks_of}
use Rattle.model.specs.View.{used_of}
use Rattle.maps.specs.Bitmap.{bits_of}
use Rattle.image.specs.Image.{paint, with_peaks}
use Rattle.rules.specs.Drawn.{state_image}

-- byte j of a page belongs to its map: those of classes 8, 16 and 32 stand at the start of the page
abbrev pub map_has : Page → ℕ → Bool
map_has idle j = false
map_has (slab c m) j = pick (ltb c 3) (ltb (8 * j) (chunks c)) false
map_has (taken n) j = false
map_has inside j = false
map_has edge j = false

-- byte j of a page's map
unfoldable pub map_byte : (x : Page) (j : ℕ) → ℕ
map_byte x j = bits_of (λ i. marks_of x (8 * j + i)) 8

-- byte i of a pool, the pages of which begin at `from`, belongs to a map that lies in a page
unfoldable pub in_map : (from : ℕ) (m : State) (i : ℕ) → Bool
in_map from m i = pick (ltb i from) false (map_has (m.page ((i - from) / 4096)) ((i - from) % 4096))

-- byte i with those maps written over s
unfoldable pub mapped_byte : (from : ℕ) (m : State) (s : List ℕ) (i : ℕ) → ℕ
mapped_byte from m s i = pick (in_map from m i) (map_byte (m.page ((i - from) / 4096)) ((i - from) % 4096)) (get_or s i 0)

-- a list of n elements by their places
unfoldable pub tab : {A : Type 0} → ℕ → (ℕ → A) → List A
tab zero h = []
tab (suc n) h = h zero ∷ tab n (λ k. h (suc k))

unfoldable pub mapped : (w : ℕ) (m : State) (s : List ℕ) → List ℕ
mapped w m s = tab (length s) (mapped_byte (pages_from w m.size) m s)

unfoldable pub draw : (w : ℕ) (s : List ℕ) (m : State) → List ℕ
draw w s m = paint w m.size (state_image m) (mapped w m s)

-- ---- the peaks, which lie beneath the drawing

abbrev pub larger : (a b : ℕ) → ℕ
larger a b = pick (leb a b) b a

-- s with each peak raised to what the state has in use, where that is more
unfoldable pub raised : (w : ℕ) (s : List ℕ) (m : State) → List ℕ
raised w s m = with_peaks w (λ c. larger (peak_at w s c) (used_of m c)) s
