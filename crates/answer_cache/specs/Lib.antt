pub mod Seats
pub mod Marks
pub mod Indexes
pub mod Lists
pub mod Nodes
pub mod Notes
pub mod Shared
pub mod Carried
