pub mod Answers
pub mod Judging
pub mod Paces
