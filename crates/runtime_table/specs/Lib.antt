pub mod Begun
pub mod Keywords
pub mod Placed
pub mod Quick
