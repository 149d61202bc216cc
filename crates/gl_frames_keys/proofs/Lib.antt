pub mod LateLemmas
pub mod KeyedLemmas
pub mod SlotKeyLemmas
pub mod OpenLemmas
pub mod LaterLemmas
