pub mod Widths  -- the width that the first byte tells
