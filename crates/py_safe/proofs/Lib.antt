mod Agreement
mod Begun
mod Bodies
mod Clauses
pub mod Codes
mod Collections
mod Comprehensions
mod Definitions
mod Delegates
mod Exceptions
mod Expressions
mod Frames
mod Functions
pub mod Growth
mod Handing
mod Modules
mod Names
mod Operations
mod Passing
mod Raised
mod Reports
pub mod Right
pub mod Rows
mod Runs
mod Scenes
mod Statements
mod Targets
pub mod Worlds
