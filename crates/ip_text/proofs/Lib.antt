pub mod Cutting
mod Colons
mod Digits
mod GroupSteps
mod Groups
pub mod Rows
mod NumberFronts
mod GroupFronts
pub mod Lists
pub mod V4Texts
mod V4Fronts
pub mod V6Texts
mod V6Fronts
mod AddressTexts
mod Written
