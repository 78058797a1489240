pub mod Commands
pub mod Parts
pub mod Outcomes
pub mod Runs
pub mod Served
pub mod Jobs
