pub mod Profile
pub mod Fit
pub mod Steps
pub mod Worked
