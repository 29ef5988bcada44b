pub mod Layout  -- where the records of a pool lie
pub mod Header  -- the header in one word
pub mod Class  -- a class record in two words
pub mod Page  -- a page record in two words
pub mod Fits  -- records whose fields are numbers of their widths
pub mod Mirror  -- records by value with one field changed
