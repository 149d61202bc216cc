pub mod View
pub mod Lexed
pub mod Placed
