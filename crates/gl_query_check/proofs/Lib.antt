pub mod Testing
pub mod Passing
pub mod Listing
pub mod Accepting
pub mod Judging
pub mod Joining
