pub mod Ending
pub mod Explaining
