pub mod Lanes
pub mod Keeping
pub mod Shares
pub mod Laws
pub mod Memories
