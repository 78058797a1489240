pub mod SrvOrder
pub mod Outcomes
pub mod Chances
pub mod Draws
pub mod Later
