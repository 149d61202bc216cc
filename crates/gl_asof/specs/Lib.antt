pub mod AsOf
pub mod Results
pub mod Laws
pub mod Worked
