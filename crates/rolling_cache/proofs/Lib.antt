pub mod Crossing
mod Ending
mod Handing
mod Late
mod Opening
mod Owning
