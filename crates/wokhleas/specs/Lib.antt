pub mod Handles
pub mod Limits
pub mod Numbers
pub mod Requests
pub mod Statuses
pub mod Told
pub mod Tries
pub mod Wires
