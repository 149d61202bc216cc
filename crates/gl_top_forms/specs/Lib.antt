pub mod Forms
pub mod Steps
pub mod Worked
pub mod Said
pub mod Help
pub mod Wrong
