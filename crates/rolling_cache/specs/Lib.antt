pub mod Eras
pub mod Lineages
pub mod Rolling
