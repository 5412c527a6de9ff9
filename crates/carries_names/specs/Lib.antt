pub mod Names
pub mod Begun
pub mod Functions
pub mod Laws
