pub mod Counts  -- what one changed page contributes to the counts of a state, and how many marks a page has
pub mod Maps  -- a mark written, and a new map
pub mod Lists  -- a page leaves the list of its class, or comes in front of it
pub mod Next  -- from a state to the next
pub mod Refused  -- a chunk asked for in vain
pub mod Remarked  -- the marks of a class page change, and its class's list and tally with them
pub mod Taken  -- a chunk is handed out of the first page of its class list
pub mod Kept  -- a chunk comes back and others of its page stay taken
pub mod Cut  -- a page is cut for a class whose list is empty
pub mod Dropped  -- the last chunk of a page comes back and the page is released
pub mod Laws  -- the laws of `specs/Claim.antt`, proved
