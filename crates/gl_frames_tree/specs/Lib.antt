pub mod Growing
pub mod Laws
pub mod LevelNets
pub mod TreeNets
pub mod Worked
