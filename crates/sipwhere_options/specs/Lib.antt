pub mod Servers
pub mod Terminals
pub mod Timings
pub mod Flags
pub mod Pings
pub mod CommandLine
pub mod Plans
