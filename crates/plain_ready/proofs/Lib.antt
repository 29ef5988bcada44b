pub mod Scan  -- the page at the place that the scan finds
