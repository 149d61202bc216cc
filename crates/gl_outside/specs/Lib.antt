pub mod Counts
pub mod Told
pub mod States
pub mod Fetched
pub mod Reads
pub mod Held
pub mod Seen
pub mod Streams
