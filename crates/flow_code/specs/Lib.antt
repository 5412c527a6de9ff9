pub mod Machine
pub mod Run
pub mod Labels
pub mod Registers
pub mod WellFormed
pub mod Contents
pub mod Laws
