pub mod Tests  -- what the table of free runs is scanned for
