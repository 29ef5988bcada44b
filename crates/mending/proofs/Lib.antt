pub mod Ascending  -- numbers in rising order, and those of them that pass a test
pub mod Remade  -- the state made anew of a table of pages is well formed
pub mod Determined  -- the live blocks of a table of pages determine it
pub mod Only  -- shape, rule 5 and the pages depend on kinds, classes, run lengths and maps alone
pub mod Neighbours  -- neighbours in a list in rising order, found by search
pub mod Image  -- the records of the state made anew
pub mod Copy  -- the mender's copy is accepted
pub mod Painted  -- the mender's copy, record by record
pub mod Restored  -- what an accepted copy is
pub mod Compared  -- two pools compared page by page
pub mod Checked  -- the checker says yes exactly when the copy is accepted
pub mod Rescued  -- a sound pool is accepted as the mended copy of what is left of it when links are lost
pub mod Claims  -- the statements of `specs/Claim.antt`, proved
