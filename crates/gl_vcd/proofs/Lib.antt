mod Changes
mod Digits
mod Headers
mod OnWay
mod Stops
pub mod Bytes
pub mod Numerals
pub mod Numbered
pub mod Declarations
pub mod Values
pub mod Rows
pub mod RoundTrip
pub mod Found
pub mod Lexed
pub mod Bits
pub mod Changed
pub mod Going
pub mod Went
pub mod Kept
pub mod Shown
pub mod Left
