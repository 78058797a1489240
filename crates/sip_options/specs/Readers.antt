-- What the functions of the readers find and give: words of private contracts alone. The
-- definitions beside this folder do without them.
pub mod Fits
pub mod Headers
pub mod Numbers
pub mod Octets
pub mod Pieces
pub mod Vias
pub mod Words
pub mod Written
