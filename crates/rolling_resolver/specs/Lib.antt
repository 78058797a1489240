pub mod Inside
pub mod Instants
pub mod Rests
pub mod Rolling
pub mod Stats
