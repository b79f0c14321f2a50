pub mod UserLemmas
pub mod JudgeLemmas
pub mod VerdictLemmas
pub mod ResultLemmas
pub mod TableLemmas
pub mod EntryLemmas
pub mod FreshLemmas
pub mod BesideLemmas
pub mod AdditionLemmas
pub mod ReadyLemmas
pub mod NumberLemmas
pub mod PlannedLemmas
pub mod UnledLemmas
pub mod LeadLemmas
pub mod ItemsTo
pub mod LastLemmas
pub mod RemovalLemmas
pub use Rattle.name_registry.proofs as name_registry
pub use Rattle.cpe_dictionary.proofs as cpe_dictionary
