pub mod LateEnds
pub mod Sources
pub mod LateWires
pub mod Costs
pub mod Rotations
pub mod Laws
pub mod Worked
