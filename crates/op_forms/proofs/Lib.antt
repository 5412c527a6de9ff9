pub mod Names
pub mod Bindings
pub mod Dicts
pub mod Keys
pub mod Grown
pub mod Objects
pub mod Keeping
