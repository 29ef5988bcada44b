use mathlib.Core.Path.{refl, sym, ap, ◌∙◌}
use Rattle.std.specs.Prelude.{Err}
use borrow.Author.Tests.{eq-eqb, ne_eqb}
use Rattle.answers.proofs.Results.{passed_on}
use Rattle.keeper_calls.proofs.Served.{no_pool, pool_then}
use Rattle.keeper_calls.proofs.both_sound.Goals as goal

pub returns-in_err-pages : goal.returns-in_err-pages
returns-in_err-pages c =
    let u = c.in_err-pages.ensures.unsound in
    let e = passed_on _ c.from_residual.ensures.1 ∙ ap Err u.1 in
    record { sound = rw e tt; unsound = rw e (sym (no_pool _ _ _ (ne_eqb _ _ u.0)), refl) }

pub directory_ok-requires : goal.directory_ok-requires
directory_ok-requires c = c.in_ok-pages.ensures.sound

pub returns-then-not-directory_ok : goal.returns-then-not-directory_ok
returns-then-not-directory_ok c =
    let G = c.in_ok-pages.ensures.sound in
    record { sound = tt; unsound = (sym (pool_then _ _ _ (eq-eqb _ _ G.pool.sound)) ∙ sym c.directory_ok.ensures ∙ c.if-not-directory_ok.true, refl) }

pub returns : goal.returns
returns c = record {
  sound = record { validated = c.in_ok-pages.ensures.sound; directory = sym c.directory_ok.ensures ∙ c.if-not-directory_ok.false };
  unsound = tt;
}
