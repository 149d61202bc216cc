pub mod ResultNames
pub mod Planning
pub mod PlanLeaves
pub mod KnownOf
pub mod PlanResults
pub mod Faces
pub mod Meeting
pub mod Ports
pub mod Shaped
pub mod Refusing
pub mod Made
pub mod Telling
pub mod Runs
mod Each
mod Plain
mod Words
mod Spelled
mod Shows
pub mod Dumpable
pub mod ReadBack
mod DumpLines
pub mod DumpedRuns
