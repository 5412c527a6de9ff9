pub mod Around
pub mod Assembled
pub mod Layers
pub mod Enclosed
