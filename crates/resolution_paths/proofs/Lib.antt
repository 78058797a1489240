pub mod More
pub mod EachPath
pub mod Heard
