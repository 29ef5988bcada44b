pub mod Mapped  -- the maps that lie in pages, drawn
pub mod Records  -- records written back as they stand change nothing, and painting leaves bytes
pub mod Encoding  -- what bytes give, sound or not
pub mod Drawn  -- the drawing of a state shows the state's fields
pub mod Noise  -- pools with the same records show the same fields
pub mod Over  -- what is painted or drawn over a painting
pub mod Peaks  -- the peaks beneath a drawing
pub mod Format  -- format draws a fresh pool
pub mod Laws  -- the laws of `specs/Claim.antt`, proved
