pub mod Stores
pub mod Augments
pub mod Assignments
