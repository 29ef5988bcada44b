pub mod Words  -- the first page in the word of counts
