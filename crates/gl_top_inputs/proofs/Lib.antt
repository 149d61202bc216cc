pub mod Texts
pub mod Modules
pub mod Changes
pub mod Placed
