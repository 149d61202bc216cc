pub mod TurnFigures
pub mod Dates
pub mod Dated
pub mod Turns
pub mod TurnLines
pub mod Blocks
pub mod Counted
