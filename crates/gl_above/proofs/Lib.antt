pub mod AboveLemmas
