pub mod Parts
pub mod Added
pub mod Choices
pub mod Comparisons
pub mod Displays
pub mod Calls
