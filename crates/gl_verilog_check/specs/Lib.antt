pub mod Kept
pub mod Tests
pub mod Orders
pub mod Passes
pub mod Homes
