pub mod EachLemmas
pub mod FrameLemmas
pub mod SentenceLemmas
pub mod PlaceLemmas
pub mod ResultLemmas
