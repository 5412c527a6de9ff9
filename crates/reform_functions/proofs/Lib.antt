pub mod Defaults
pub mod Dressed
