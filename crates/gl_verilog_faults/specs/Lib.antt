pub mod Counts
pub mod Marks
pub mod Demands
pub mod Faults
pub mod Laws
