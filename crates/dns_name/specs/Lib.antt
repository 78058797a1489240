pub mod Labels
pub mod Octets
pub mod Pieces
pub mod Offsets
pub mod ShortNames
pub mod Landings
pub mod Texts
