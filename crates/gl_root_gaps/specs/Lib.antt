pub mod TickGaps
pub mod Roots
pub mod Together
