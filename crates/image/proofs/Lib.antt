pub mod Places  -- no two records share a word, whatever the width of a class record
pub mod Write  -- strided writes of words
pub mod Peaks  -- the peaks that lie beneath an image
pub mod Paint  -- what each store does to a painted image, and what a painted image shows
pub mod Fits  -- an image whose fields are numbers of their widths, and that its changes keep it so
