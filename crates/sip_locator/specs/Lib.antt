pub mod Locations
pub mod Gains
pub mod Refusals
pub mod Replies
pub mod Readings
