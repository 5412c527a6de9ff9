pub mod Values
pub mod Standing
pub mod Frames
pub mod Light
