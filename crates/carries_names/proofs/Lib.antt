pub mod Seats
pub mod Names
pub mod Made
pub mod Stages
pub mod Codes
pub mod Functions
pub mod Begins
