pub mod Alike
pub mod OneVerdict
pub mod Refusing
pub mod Reading
pub mod Times
pub mod Standing
pub mod Ports
pub mod Results
pub mod Sizes
pub mod Meeting
pub mod Made
mod Shown
pub mod Runs
mod Each
