pub mod Stages
pub mod Machine
pub mod Reading
pub mod Counting
pub mod View
pub mod Answers
