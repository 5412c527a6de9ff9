pub mod Cut
pub mod Plan
pub mod Contents
pub mod Correct
pub mod Writable
pub mod Fits
