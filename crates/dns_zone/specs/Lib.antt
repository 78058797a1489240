pub mod Zones
pub mod Authorities
pub mod Replies
pub mod Lines
pub mod Refusals
pub mod Views
pub mod Servers
pub mod ZoneWires
