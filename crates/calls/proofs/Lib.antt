pub mod Refused  -- a call on unsound records
