pub mod States
pub mod Made
pub mod Gathering
