pub mod Parts
pub mod Stores
pub mod Unpacked
pub mod Assignments
pub mod Augments
pub mod Deletions
