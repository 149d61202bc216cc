pub mod Noting
pub mod Fetched
pub mod Later
