pub mod Fits
pub mod Reading
pub mod Contents
pub mod Taking
