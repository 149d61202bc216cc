pub mod Judged
pub mod Items
pub mod Steps
pub mod Naming
pub mod Coming
pub mod Verdicts
pub mod Listing
pub mod Rows
