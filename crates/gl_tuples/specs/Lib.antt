pub mod Values
pub mod Gaps
pub mod Flat
pub mod Growing
pub mod Pieces
