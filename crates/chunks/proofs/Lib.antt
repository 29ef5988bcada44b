pub mod Marks  -- the mark of chunk i, in the word that has it
