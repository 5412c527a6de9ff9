mod AtOnce
mod Called
mod Keywords
mod Begun
mod Placed
