pub mod BenchLemmas
pub mod CircuitLemmas
