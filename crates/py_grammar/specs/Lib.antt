pub mod Levels
pub mod Lists
pub mod Grammar
pub mod Parse
pub mod Laws
