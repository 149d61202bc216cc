pub mod Exits
pub mod Without
