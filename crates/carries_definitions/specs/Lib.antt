pub mod Decorated
pub mod Collected
pub mod Delegated
pub mod Told
pub mod Laws
