mod Registers
mod Keeping
mod Plain
