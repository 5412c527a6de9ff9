pub mod Blocks
pub mod Tree
pub mod Nodes
pub mod Run
pub mod Contents
pub mod Laws
