pub mod Carries
pub mod Inputs
pub mod Outputs
pub mod Words
pub mod Due
mod PinNames
pub mod Runs
pub mod PinLemmas
pub mod Found
pub mod Unbound
pub mod Faces
pub mod Showing
pub mod Views
pub mod Emissions
pub mod NodeCounts
pub mod PortCounts
pub mod OverflowBeats
pub mod OverflowRuns
