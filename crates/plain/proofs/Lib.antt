-- The steps of the loops over tables, and the laws between the plain state and the model.
pub mod Loops
pub mod Table
pub mod Places
pub mod Shown
pub mod Pages
pub mod Ready
pub mod Bytes
pub mod Marked
pub mod Handed
pub mod Returned
pub mod Whole
pub mod Freed
pub mod Joined
pub mod Shapes
pub mod Fresh
