pub mod ListLemmas
pub mod LastLemmas
pub mod SumLemmas
pub mod BestLemmas
pub mod PartitionLemmas
pub mod ResultLemmas
