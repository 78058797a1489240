pub mod Runs
pub mod Gathers
pub mod Slots
pub mod Rules
pub mod Deals
