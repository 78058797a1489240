pub mod Addresses
pub mod Numbers
pub mod Parts
pub mod Readers
pub mod Shown
