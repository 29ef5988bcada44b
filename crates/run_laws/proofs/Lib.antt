pub mod Starts  -- the first pages of the free runs when runs leave the list and when one is cut
pub mod Shown  -- an image shows a list of free runs
pub mod Surgery  -- a run leaves the list of free runs, another takes its place, one comes in front, and records of pages off the list are written
pub mod Cut  -- the front pages of a free run leave the list
pub mod Join  -- pages join the free runs on both sides, and the whole becomes the head
pub mod Paint  -- what the operations on free runs do to a painted image
pub mod Fit  -- first fit on the bytes finds the first run of the list that is long enough
pub mod Laws  -- the operations on free runs, on the bytes of an image that shows them
pub mod Counts  -- how many pages are free after k pages change
pub mod Alike  -- pages that are no class pages count nothing in classes and have no map
pub mod Drawn  -- on the drawing of a well-formed state the operations on free runs draw the model's next state
