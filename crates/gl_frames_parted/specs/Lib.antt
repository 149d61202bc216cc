pub mod Picked
pub mod Parted
