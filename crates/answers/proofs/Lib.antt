pub mod Refusals  -- a refusal's number
pub mod Results  -- what a `?` passes on
