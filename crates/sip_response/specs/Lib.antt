pub mod Multicast
pub mod Routes
pub mod Sources
