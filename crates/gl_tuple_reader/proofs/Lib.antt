pub mod Fields
pub mod Filings
pub mod Texts
pub mod Beatings
pub mod Bringings
pub mod FileBeating
pub mod Entering
pub mod Ruled
pub mod OneFile
pub mod FileReadings
mod Columns
mod Steps
mod Settings
mod Listings
mod WholeFiles
