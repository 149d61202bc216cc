pub mod Bools
pub mod Options
pub mod AllLists
pub mod Numbers
pub mod Places
pub mod Machines
pub mod Wrapping
pub mod Memories
