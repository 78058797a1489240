pub mod Placing
pub mod Exact
pub mod Places
pub mod Sorting
pub mod Indexes
