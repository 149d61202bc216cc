pub mod Frames
pub mod Laws
pub mod Partitions
pub mod Results
pub mod Worked
pub mod WorkedTrades
