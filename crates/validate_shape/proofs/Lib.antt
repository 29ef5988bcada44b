pub mod Arms  -- when a run is walked, and the answers by kind
pub mod Passing  -- what a well-shaped page lets the pass add
