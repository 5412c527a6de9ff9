pub mod Places
pub mod Takers
