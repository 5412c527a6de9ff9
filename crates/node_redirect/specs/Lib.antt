pub mod Redirect
pub mod Shown
pub mod Laws
