mod Writing
mod Lengths
