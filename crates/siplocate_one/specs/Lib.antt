pub mod Refusals
pub mod Replies
pub mod Requests
pub mod Words
pub mod Talks
pub mod Takings
pub mod Books
