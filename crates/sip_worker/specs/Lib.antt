pub mod Outcomes
pub mod Gates
pub mod SameJobs
pub mod Batches
pub mod Drives
