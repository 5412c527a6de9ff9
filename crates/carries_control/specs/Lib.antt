pub mod Raises
pub mod Loops
pub mod Tries
pub mod Finish
pub mod Laws
