pub mod LaneNets
