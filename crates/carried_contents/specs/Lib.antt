pub mod Taking
pub mod Counts
pub mod Naming
pub mod Laws
