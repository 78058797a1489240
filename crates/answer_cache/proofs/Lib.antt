mod Searching
mod Powers
mod Adding
mod Following
pub mod Costing
mod Indexing
pub mod Lookups
pub mod Placing
pub mod Seating
pub mod Together
pub mod Succeeding
pub mod Carrying
pub mod CarriedAnswers
pub mod Gathering
