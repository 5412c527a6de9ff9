mod Chains
mod Nearest
mod Order
mod Copies
mod Asked
