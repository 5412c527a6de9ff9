mod Lawful
mod Table
