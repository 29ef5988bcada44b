-- The stores of format paint one free run, and the three cases of a length.
use mathlib.Core.Path.{◌≡◌, refl}
use mathlib.Core.List.{List}
use Prim.Native.Nat.{ℕ, ◌-◌, ◌≤◌, ◌<◌}
use native.Mathlib.Omega.{arith}
use lib.ListN.{length}
use borrow.Author.Tests.{lt-ltb, le-ltb, le-leb, lt-leb}
use Rattle.base.specs.Tests.{pick}
use Rattle.records.specs.Layout.{page_count}
use Rattle.records.specs.Header.{with_header}
use Rattle.records.specs.Class.{pack_peak}
use Rattle.image.specs.Image.{header_of, paint, with_peaks, set_links}
use Rattle.image.proofs.Paint.{links-paint}
use Rattle.answers.specs.Outcome.{granted, refused}
use Rattle.answers.specs.declared.Refusal.TheVariants.{TooShort, TooLong}
use Rattle.format.specs.Format.{shortest, too_long, format_outcome, inside_free, first_free, all_free, fresh_image, formatted}
use Rattle.format.specs.Mirror.{filled, peaks_cleared, classes_cleared, pages_cleared, run_linked, written}

pub cleared-paint : (w P : ℕ) (s : List ℕ) → pages_cleared w P (classes_cleared w (with_header s (header_of w P P 0))) ≡ paint w P (all_free P) s
unfolding pages_cleared classes_cleared filled with_header paint
cleared-paint w P s = refl

peaks_cleared_lem : (w : ℕ) (s : List ℕ) → peaks_cleared w s ≡ with_peaks w (λ c. 0) s
unfolding peaks_cleared with_peaks filled pack_peak
peaks_cleared_lem w s = refl

pub written-paint : (w P : ℕ) (s : List ℕ) → 2 ≤ w → 1 ≤ P → written w P s ≡ paint w P (fresh_image P) (with_peaks w (λ c. 0) s)
unfolding written run_linked fresh_image
written-paint w P s wide some =
    let u : List ℕ = with_peaks w (λ c. 0) s in
    rw (peaks_cleared_lem w s, cleared-paint w P u, links-paint w P wide (all_free P) u (P - 1) (inside_free 0) (omega arith))
    (links-paint w P wide (set_links (all_free P) (P - 1) (inside_free 0)) u 0 (first_free P) some)

module _ (w : ℕ) (s : List ℕ) where
  pub short-outcome : length s < shortest w → refused TooShort ≡ format_outcome w (length s)
  unfolding format_outcome pick
  short-outcome h = rw (lt-ltb (length s) (shortest w) h)

  pub short_slice : length s < shortest w → s ≡ formatted w s
  unfolding formatted pick
  short_slice h = rw (lt-ltb (length s) (shortest w) h)

  module _ (some : shortest w ≤ length s) where
    pub long-outcome : too_long w ≤ length s → refused TooLong ≡ format_outcome w (length s)
    unfolding format_outcome pick
    long-outcome h = rw (le-ltb (length s) (shortest w) some, le-leb (too_long w) (length s) h)

    pub long_slice : too_long w ≤ length s → s ≡ formatted w s
    unfolding formatted pick
    long_slice h = rw (le-ltb (length s) (shortest w) some, le-leb (too_long w) (length s) h)

    pub fit-outcome : length s < too_long w → granted (page_count w (length s)) ≡ format_outcome w (length s)
    unfolding format_outcome pick
    fit-outcome h = rw (le-ltb (length s) (shortest w) some, lt-leb (too_long w) (length s) h)

    pub fit_slice : 2 ≤ w → length s < too_long w → written w (page_count w (length s)) s ≡ formatted w s
    unfolding formatted pick
    fit_slice wide h =
        rw (le-ltb (length s) (shortest w) some, lt-leb (too_long w) (length s) h)
        (written-paint w (page_count w (length s)) s wide (omega arith))
