pub mod Mapping
pub mod MapNets
