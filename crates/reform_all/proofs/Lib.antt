mod Lefts
mod Making
mod Blocks
mod Quiets
mod Assigns
mod Chains
mod Becomes
mod Rows
pub mod ExpressionsCarried
mod Gained
mod ModuleSurvey
pub mod Module
pub mod ModuleRun
mod ModuleReformed
