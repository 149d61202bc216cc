pub mod Brackets
pub mod Canonical
pub mod Spaced
pub mod Printing
