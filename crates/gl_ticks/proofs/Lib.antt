pub mod CountLemmas
pub mod ScheduleLemmas
pub mod StreamLemmas
pub mod ServeLemmas
pub mod RotationNet
