pub mod Callers
pub mod Crossing
pub mod Handling
pub mod HeldSteps
pub mod LooseValues
pub mod Receiving
pub mod Refusing
pub mod Telling
