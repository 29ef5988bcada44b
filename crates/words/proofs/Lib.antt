pub mod Cell  -- a number of n bytes in a list
pub mod Laws  -- the laws of the numbers of two, four and eight bytes, and of the words of a list
pub mod Chain  -- eight bytes joined from the last to the first, and turned over, are the word that they make
pub mod Stores  -- stores into words
pub mod Turn  -- a word turned over and set least significant byte first is the word set
