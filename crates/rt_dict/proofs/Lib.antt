pub mod Loops
mod Arguments
mod Members
mod Places
mod Putting
