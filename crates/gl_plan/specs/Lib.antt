pub mod Planned
pub mod Together
pub mod Worked
pub mod WorkedFrames
