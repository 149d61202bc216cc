pub mod BelowLemmas
pub mod AskedLemmas
pub mod SameLemmas
pub mod NodeLemmas
pub mod MapLemmas
pub mod RowLemmas
pub mod FormLemmas
