pub mod Judged
pub mod Elaborated
pub mod View
pub mod Numbers
pub mod Meant
