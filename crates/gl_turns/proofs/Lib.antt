pub mod DateLemmas
pub mod TurnTimes
pub mod TurnOrder
pub mod TurnFits
pub mod TurnServes
pub mod TurnNet
pub mod CountLemmas
pub mod DatedLemmas
