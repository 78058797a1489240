mod Padding
mod Wire
mod Runs
mod SmallRuns
mod ShortRuns
mod Finding
mod PlainRuns
mod Pieces
mod Leads
mod Offsets
mod TextLabels
pub mod ClosingDots
mod LabelsFromTheEnd
mod TextNames
mod OctetTable
