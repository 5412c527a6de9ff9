pub mod Names
pub mod Gaining
pub mod Places
pub mod Standing
pub mod Unset
