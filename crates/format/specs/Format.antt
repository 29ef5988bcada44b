-- Format: what it answers, by the slice's length alone, and what it leaves.
use Rattle.std.specs.Prelude.{ℕ, ◌+◌, ◌-◌, ◌*◌, List, leb, ltb, length}
use Rattle.base.specs.Tests.{pick}
use Rattle.records.specs.Layout.{no_page, page_count}
use Rattle.model.specs.Classes.{max_pages}
use Rattle.records.specs.declared.Links.{Links}
use Rattle.records.specs.Class.{empty_class}
use Rattle.image.specs.Image.{Image, paint, with_peaks, set_links}
use Rattle.answers.specs.Outcome.{Outcome, granted, refused}
use Rattle.answers.specs.declared.Refusal.TheVariants.{TooShort, TooLong}

-- ---- the answer

-- the least length that gives a page, and the least that gives too many
abbrev pub shortest : ℕ → ℕ
shortest w = 8 + 72 * w + 4112

abbrev pub too_long : ℕ → ℕ
too_long w = 8 + 72 * w + 4112 * (max_pages + 1)

unfoldable pub format_outcome : (w len : ℕ) → Outcome
format_outcome w len =
    pick (ltb len (shortest w)) (refused TooShort) (pick (leb (too_long w) len) (refused TooLong) (granted (page_count w len)))

-- ---- the slice

-- a page inside a free run, where prev is the run's first page in the run's last page and else no page
abbrev pub inside_free : ℕ → Links
inside_free prev = record { kind = 0; class = 0; run = 0; next = record { 0 = no_page }; prev = record { 0 = prev } }

-- the first page of a free run of n pages that is alone on its list
abbrev pub first_free : ℕ → Links
first_free n = record { kind = 1; class = 0; run = n; next = record { 0 = no_page }; prev = record { 0 = no_page } }

-- P pages, all inside a free run
abbrev pub all_free : ℕ → Image
all_free P = record { free_pages = P; first_run = 0; class = λ c. empty_class; map = λ p. 0; links = λ p. inside_free no_page }

-- one free run of P pages
unfoldable pub fresh_image : ℕ → Image
fresh_image P = set_links (set_links (all_free P) (P - 1) (inside_free 0)) 0 (first_free P)

-- header, class records and page records are written, with peaks of 0; page bytes and tail stay
unfoldable pub formatted : (w : ℕ) (s : List ℕ) → List ℕ
formatted w s =
    pick (ltb (length s) (shortest w)) s
    (pick (leb (too_long w) (length s)) s (paint w (page_count w (length s)) (fresh_image (page_count w (length s))) (with_peaks w (λ c. 0) s)))
