pub mod Words
mod Counts
pub mod Named
mod Rows
