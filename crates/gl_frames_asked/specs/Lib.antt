pub mod Asked
pub mod Among
pub mod Laws
pub mod Worked
