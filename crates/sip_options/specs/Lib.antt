pub mod Fields
pub mod Frames
pub mod Heads
pub mod Readers
pub mod Replies
pub mod Requests
pub mod Texts
pub mod Vias
