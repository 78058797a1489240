pub mod Sources
pub mod Paths
