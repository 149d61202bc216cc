pub mod Pins
pub mod Settings
pub mod Ticks
