pub mod Alike
pub mod Edits
pub mod Laws
pub mod Methods
pub mod Steps
