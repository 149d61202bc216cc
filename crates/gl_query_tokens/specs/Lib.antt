pub mod Words
pub mod Tokens
pub mod Sorts
pub mod Places
