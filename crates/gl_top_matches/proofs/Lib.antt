mod Steps
mod Laid
mod Ends
mod Names
mod Layouts
mod Runs
mod Sims
pub mod Taking
