pub mod Values
pub mod Names
pub mod Linking
pub mod Filling
pub mod Passing
pub mod Delegating
