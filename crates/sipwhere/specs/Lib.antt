pub mod LineInputs
pub mod OpenLines
pub mod Denials
pub mod Destinations
pub mod LineOutcomes
pub mod Runs
pub mod Accounts
pub mod Statuses
