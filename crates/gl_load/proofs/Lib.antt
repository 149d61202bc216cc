mod Lines
mod Fields
mod Telling
mod Counting
mod Beating
mod Running
mod Compiling
pub mod Constants
pub mod Planning
