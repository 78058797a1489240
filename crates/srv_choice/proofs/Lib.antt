pub mod Members
pub mod Lowest
pub mod Picks
pub mod Lefts
pub mod Orders
pub mod Listings
pub mod Shares
