pub mod FoldLemmas
pub mod BehindLemmas
pub mod RowLemmas
pub mod SingleLemmas
pub mod PairLemmas
pub mod ShareLemmas
