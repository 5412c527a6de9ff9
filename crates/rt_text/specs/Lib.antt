pub mod Sizes
pub mod Quoted
pub mod Laws
