pub mod Statuses
pub mod Refusals
pub mod Written
pub mod Texts
