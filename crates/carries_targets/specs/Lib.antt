pub mod Places
pub mod Targets
pub mod Augments
pub mod Deletions
pub mod Laws
