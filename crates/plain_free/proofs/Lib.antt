pub mod Chunked  -- a chunk of a class page, by its bytes into the page
