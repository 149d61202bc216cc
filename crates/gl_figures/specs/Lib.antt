pub mod Answered
pub mod Known
pub mod Worked
pub mod WorkedSpares
pub mod Reach
pub mod Marks
pub mod WorkedReach
