pub mod Meets
pub mod Queries
pub mod Below
pub mod Compiles
pub mod Roots
pub mod Runs
