pub mod Bitmap
pub mod Mirror
