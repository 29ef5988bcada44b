-- The statements of `specs/Claim.antt`, proved.
use Rattle.free_all_model.specs.Claim.{Claims}
use Rattle.free_all_model.proofs.Singles.{as_single_frees}
use Rattle.free_all_model.proofs.Listed.{on_well_formed}
use Rattle.free_all_model.proofs.Order.{any_order}
use Rattle.free_all_model.proofs.Examples.{examples_hold}

pub claims : Claims
claims = record {
  as_single_frees = as_single_frees;
  on_well_formed = on_well_formed;
  any_order = any_order;
  examples_hold = examples_hold;
}
