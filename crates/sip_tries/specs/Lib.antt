pub mod Turns
pub mod ServerUris
pub mod Draws
