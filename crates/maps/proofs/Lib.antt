pub mod Bits  -- a number put together from marks, from the top down; a byte's eight bits and a word's 64
pub mod Maps  -- the bytes of a whole map and its marks tell each other, wherever the map lies
pub mod Marks  -- a mark set or clear
pub mod Masks  -- the code's masks test, set and clear the bits that they should
pub mod NewMap  -- a new map, written a byte at a time, and lent by its pool
pub mod Search  -- the search for the lowest clear mark, a way through its loops at a time, and what it finds
pub mod Splice  -- a part of a list replaced
pub mod Words  -- the marks of a map of n bytes are the bits of the bytes' big-endian number
