pub mod Steps  -- what the code of the counters reads and decides
pub mod Shares  -- what the code adds for a page that keeps rule 2 is what the page adds in the words of the rules
pub mod Pass  -- the counters after one page more
pub mod Runs  -- from a page to the one after its run, and what the run adds to the counters
