pub mod Remade  -- the state of a table of pages, its lists made anew in rising page order
pub mod Mending  -- what of a damaged pool must be good, when a copy is accepted, the copy that mend writes
pub mod Checked  -- what check_mended and mend answer and leave
pub mod Claim  -- what is promised of them beyond their equations
pub mod Laws  -- laws of states whose lists are made anew
pub mod Mirror  -- the records that mend writes
