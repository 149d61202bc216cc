pub mod Places
pub mod Arrival
pub mod Changes
pub mod Results
pub mod Laws
pub mod Worked
