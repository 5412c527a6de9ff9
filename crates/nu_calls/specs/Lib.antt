pub mod Surroundings
pub mod Exceptions
pub mod Lines
pub mod Ends
pub mod Calls
pub mod Traceback
pub mod Scripts
pub mod Laws
