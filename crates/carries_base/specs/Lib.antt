pub mod Frames
pub mod Carries
pub mod Turns
pub mod Laws
