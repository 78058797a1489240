pub mod WordParts
pub mod Taken
