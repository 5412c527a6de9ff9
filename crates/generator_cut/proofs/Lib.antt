pub mod Places
pub mod Slots
mod States
mod Generators
pub mod Machines
mod AllSaved
pub mod Paths
mod Example
pub mod Emitted
mod Kept
mod Texts
