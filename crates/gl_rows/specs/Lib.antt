pub mod Costs
pub mod Gates
pub mod Made
pub mod Multiples
pub mod Counted
