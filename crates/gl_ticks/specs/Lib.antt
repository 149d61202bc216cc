pub mod Apart
pub mod Once
