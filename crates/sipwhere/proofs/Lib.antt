mod Accounts
mod Colons
mod Counts
mod Denied
mod Ends
mod HostNames
mod Later
mod Meant
mod OneDestination
mod Quiet
mod Results
mod ToldAccounts
pub mod Inputs
pub mod Told
