pub mod Text
pub mod Written
pub mod Code
pub mod State
pub mod Step
pub mod Run
pub mod Laws
