pub mod Batch  -- what a batch answers and leaves (SPEC 12)
pub mod Claim  -- what is promised of batches beyond their equations
