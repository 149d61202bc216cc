pub mod Division
pub mod Divider
