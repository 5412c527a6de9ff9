pub mod Parts
pub mod Choices
pub mod Displays
pub mod Calls
pub mod Laws
