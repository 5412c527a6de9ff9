pub mod States
pub mod Contexts
pub mod Expressions
pub mod Composed
pub mod Statements
