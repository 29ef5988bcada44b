pub mod Copy  -- a record laid into a live block
pub mod Meeting  -- requests on bytes do what the model's do
pub mod Others  -- the live blocks of others
pub mod Refusals  -- what refused requests leave
pub mod Claim  -- the statements of `specs/Claim.antt`, proved
