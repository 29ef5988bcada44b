-- The call on bytes, and the statements on it.
pub mod FreeAll
pub mod Claim
