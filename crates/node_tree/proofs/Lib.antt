pub mod Direct
pub mod Forms
