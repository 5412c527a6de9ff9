mod LeftOver
mod Pairs
mod Ready
