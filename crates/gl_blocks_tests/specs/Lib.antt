pub mod Benches
pub mod Circuits
