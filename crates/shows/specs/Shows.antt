-- When an image shows the links of a state: its ten lists, and each page's kind, class and run.
use Rattle.std.specs.Prelude.{◌≡◌, List, ℕ, suc, ◌≤◌, ◌<◌}
use Rattle.base.specs.Lists.{Mem}
use Rattle.model.specs.State.{Page, Run}
use Rattle.image.specs.Image.{Image}
use Rattle.lists.specs.Mirror.{between}
use Rattle.lists.specs.Nodes.{prev_of, Listed}
use Rattle.rules.specs.Drawn.{starts, page_links}

-- page p is on none of the ten lists
pub record Unlisted (rs : List Run) (ls : ℕ → List ℕ) (p : ℕ) : Type 0 where
  pub no_run : ¬ Mem p (starts rs)
  pub no-class : (c : ℕ) → c ≤ 8 → ¬ Mem p (ls c)

-- J shows the free runs rs, the class lists ls and, of the pages that `on` names, kind, class and run.
-- List surgery answers for next and previous of listed pages, so those are said by the lists and the rest page by page.
-- While an operation is under way some pages' records are still to be written: `on` leaves them out.
pub record ShowsOn (on : ℕ → Type 0) (page : ℕ → Page) (rs : List Run) (ls : ℕ → List ℕ) (J : Image) : Type 0 where
  pub free_list : Listed J 0 (starts rs)
  pub class_list : (c : ℕ) → c ≤ 8 → Listed J (suc c) (ls c)
  pub shape : (p : ℕ) → on p → J.links p ≡ between (page_links rs ls p (page p)) (prev_of J p) (J.links p).next.0
  pub unlisted : (p : ℕ) → on p → Unlisted rs ls p → J.links p ≡ page_links rs ls p (page p)

-- all P pages
abbrev pub ShowsLinks : (P : ℕ) (page : (ℕ → Page)) (rs : List Run) (ls : (ℕ → List ℕ)) (J : Image) → Type 0
ShowsLinks P page rs ls J = ShowsOn (λ p. p < P) page rs ls J
