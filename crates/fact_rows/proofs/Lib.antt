pub mod LinkLemmas
pub mod TableLemmas
pub mod ChangeLemmas
pub mod RefreshLemmas
pub mod RowLemmas
pub mod TruthLemmas
