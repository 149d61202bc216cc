pub mod BitLemmas
pub mod RestLemmas
pub mod DivisionLemmas
pub mod DigitNet
pub mod StageNet
