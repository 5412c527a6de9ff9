pub mod Answers
pub mod Functions
pub mod Labels
pub mod Laws
pub mod Params
pub mod Pieces
pub mod Programs
pub mod Statements
