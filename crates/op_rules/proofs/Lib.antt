mod Ranges
mod Division
mod Powers
pub mod Usual
pub mod Plain
pub mod Asks
pub mod Begun
pub mod Calls
pub mod Access
pub mod AskedValues
pub mod AllItems
pub mod Items
pub mod Slices
pub mod Iteration
pub mod SequenceOperators
pub mod Ordering
pub mod Order
pub mod SequenceMethods
pub mod Sequences
pub mod Removal
pub mod Keys
pub mod Views
pub mod DictMethods
pub mod Dicts
pub mod TextPlain
pub mod TextAccess
pub mod TextCalls
pub mod Subclasses
pub mod Specials
pub mod Attributes
pub mod Exceptions
pub mod ClassCalls
pub mod Classes
pub mod Routes
pub mod Rows
pub mod Keeping
mod Start
mod Constants
