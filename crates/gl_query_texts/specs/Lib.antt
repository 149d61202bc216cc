pub mod Judged
pub mod Limits
pub mod Pieces
pub mod Lists
pub mod ListLaws
pub mod Reading
