pub mod Rosters
pub mod Heaps
pub mod Rules
pub mod Constructs
pub mod Laws
