-- The definitions of the model, in the order to read them; `Claim` holds the statements.
pub mod Classes  -- the nine chunk classes, the marks of a page, and what a size asks for
pub mod State  -- the state of a pool apart from its bytes
pub mod Runs  -- the list of free runs
pub mod WellFormed  -- when a state is one
pub mod Calls  -- the calls on a state, as SPEC 4 tells them
pub mod Live  -- live blocks
pub mod Effects  -- what a call does to the live blocks
pub mod View  -- the five that demand 3 compares, as one view, and what a state shows of them
pub mod Expected  -- the expected view (SPEC 6.3)
pub mod Ruling  -- how the table of refusals and its order (SPEC 5, 4.7) rule a call, read on a view
pub mod Examples  -- the examples of SPEC 9.1 and the worked case, as one list of questions and facts
pub mod Claim  -- the statements of the model, each citing definitions only
