pub mod Others
pub mod Flows
mod SameQueries
mod Rounds
mod Refusals
mod Outgoing
