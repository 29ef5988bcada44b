pub mod Tests  -- choices and tests that code makes
pub mod Functions  -- functions on numbers with one place or one stretch changed
pub mod Search  -- the least number that passes a test
pub mod Count  -- sums, and how many numbers pass a test
pub mod Lists  -- membership, no repeats, and the elements that pass a test
pub mod Links  -- a doubly linked list of pages, as next and previous show it
