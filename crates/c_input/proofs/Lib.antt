mod Lined
pub mod Filling
