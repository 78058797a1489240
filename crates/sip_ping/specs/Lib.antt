pub mod Flows
pub mod Timers
pub mod Datagrams
pub mod Transactions
pub mod Streams
pub mod Messages
