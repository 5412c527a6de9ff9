mod Calls
mod Lowered
mod Nodes
mod Resolved
mod Statements
mod Texts
