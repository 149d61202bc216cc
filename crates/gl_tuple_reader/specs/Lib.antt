pub mod Entries
pub mod Filing
pub mod Settings
pub mod FileBeats
