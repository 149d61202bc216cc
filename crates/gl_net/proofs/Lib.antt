pub mod Lists
pub mod Growth
pub mod Drive
pub mod Ports
pub mod Values
pub mod Names
pub mod Determined
mod Addressed
