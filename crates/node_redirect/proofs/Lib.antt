pub mod Redirected
