pub mod Grow
pub mod Direct
pub mod Places
pub mod Leads
pub mod Congruence
pub mod OneSide
pub mod Driving
