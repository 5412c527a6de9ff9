pub mod Rows
pub mod Words
pub mod Places
pub mod Sim
pub mod Matching
pub mod Driver
pub mod Laws
