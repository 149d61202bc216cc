pub mod NumberSteps
pub mod Views
pub mod LexSteps
pub mod Places
