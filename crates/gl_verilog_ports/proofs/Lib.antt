pub mod Asked
pub mod Declared
mod Judged
pub mod Named
pub mod Fits
pub mod Inputs
pub mod Profiled
