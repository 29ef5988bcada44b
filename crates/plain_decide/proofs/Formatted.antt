-- What format leaves.
use mathlib.Core.Path.{◌≡◌, refl}
use mathlib.Core.Bool.{true}
use mathlib.Core.List.{List}
use Prim.Native.Nat.{ℕ}
use lib.ListN.{take}
use Rattle.base.specs.Tests.{pick, all_of, all_below}
use Rattle.base.specs.Count.{sum, count}
use Rattle.model.specs.Classes.{chunks, own, counted}
use Rattle.plain.specs.Table.{vacant, is_vacant}
use Rattle.plain.specs.Plain.{free_entry, no_counts}
use Rattle.plain.specs.declared.Extent.{Extent}
use Rattle.plain.specs.declared.Kept.{Kept}
use Rattle.plain.specs.Fresh.{kept_fresh, fresh_runs, plain_fresh}
use Rattle.plain.proofs.Fresh.{fresh-shown}
use Rattle.plain_rules.specs.Counts.{free_page, of_class, class_page, used_on_page, used_in, total_in, free_in}
use Rattle.plain_rules.specs.Rules.{how_many, kind_ok, free_before, apart, stretch_ok, extent_ok, holds_page, runs_ok, is_open, is_page, list_ok, counts_ok, page_ok, is_sound}
use Rattle.plain_decide.specs.Calls.{seen, Formats}

fresh-sound : (b : List ℕ) → is_sound plain_fresh b ≡ true
unfolding plain_fresh vacant is_vacant free_entry no_counts pick all_of all_below sum count free_page of_class class_page used_on_page used_in total_in free_in how_many kind_ok free_before apart stretch_ok extent_ok holds_page runs_ok is_open is_page list_ok counts_ok page_ok is_sound counted chunks own
fresh-sound b = refl

fresh-formats : Formats plain_fresh
fresh-formats = record { state = fresh-shown; sound = λ b l. fresh-sound b }

pub formats : (r : Kept) → r ≡ kept_fresh → (x : List Extent) → take 12 x ≡ fresh_runs → Formats (seen r x)
unfolding plain_fresh
formats r e x f = rw (e, f) fresh-formats
