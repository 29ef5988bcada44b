pub mod Claim  -- on every list of calls from format both engines answer and count alike
