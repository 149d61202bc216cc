pub mod Tuples
pub mod Told
pub mod Tallies
pub mod Steps
pub mod Loads
pub mod Query
