pub mod FindLemmas
pub mod LaneNet
pub mod LookNet
