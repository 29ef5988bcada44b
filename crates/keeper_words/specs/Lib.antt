pub mod Words  -- a word of the directory, packed and unpacked
