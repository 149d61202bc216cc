pub mod Simulation
pub mod Updates
pub mod Starts
pub mod Inputs
