pub mod Known  -- what the types of the arrays say
pub mod Relied  -- what alloc and free rely on
pub mod Tidied  -- kinds, and the values of refusals
pub mod Serving  -- calls on a plain state are the model's
pub mod Deciding  -- what is decided, joined with the table of free runs
pub mod Lending  -- calls with a lent table of free runs
pub mod Formatted  -- what format leaves
