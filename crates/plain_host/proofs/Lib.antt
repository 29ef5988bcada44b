pub mod Loan  -- a host's own table, lent for the call
