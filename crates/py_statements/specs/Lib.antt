pub mod Grammar
pub mod Nesting
pub mod Parse
pub mod Script
pub mod Words
