pub mod Net
pub mod WellFormed
pub mod Finished
pub mod Steps
pub mod Builds
pub mod Laws
pub mod PortValues
pub mod Small
