pub mod LimitLemmas
pub mod TogetherLemmas
