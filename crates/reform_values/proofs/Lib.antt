pub mod Joined
pub mod Linked
pub mod Filled
pub mod Handed
pub mod Yielded
