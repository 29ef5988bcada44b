pub mod Judged  -- the loop that tries the entries of the lent table
