pub mod PlaceLemmas
mod MapLemmas
mod ToldLemmas
pub mod SeenNet
mod PassNet
mod MapNet
