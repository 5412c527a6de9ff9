mod Underscore
mod Lambdas
mod Outward
mod Repeats
mod Turns
mod Exact
mod Table
mod Changed
mod Filled
mod NearestHome
pub mod OneRefusal
mod Grown
mod NestedExpressions
mod NestedScopes
