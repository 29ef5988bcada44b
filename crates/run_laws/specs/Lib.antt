pub mod OnImage
pub mod Scene
