pub mod Lower
pub mod Correct
pub mod Kept
pub mod Laws
