pub mod OrderLemmas
pub mod SideLemmas
pub mod ChangeLemmas
pub mod ResultLemmas
