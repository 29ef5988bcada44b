-- The tests of rules 2 to 6 hold exactly when a plain state is sound.
pub mod Counted  -- rule 6: what is counted is what the state shows
pub mod Many  -- how many entries of a table pass a test
pub mod Paged  -- rules 2 and 5: pages
pub mod Covered  -- rules 2 and 3: the table of free runs
pub mod Listed  -- rule 4: the list of pages with a free chunk
pub mod Judged
pub mod Split  -- a plain state is sound by its table of free runs and by what is kept
