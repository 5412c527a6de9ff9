pub mod Laws
pub mod Scripts
