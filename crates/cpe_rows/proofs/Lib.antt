pub mod Accepted
pub mod Added
pub mod Alone
pub mod CauseLemmas
pub mod ChangedEntries
pub mod Cycles
pub mod Joined
pub mod KeptChecks
pub mod KeptLawful
pub mod KeyTests
pub mod Limited
pub mod Lists
pub mod NameTests
pub mod Paths
pub mod Raised
pub mod Reaches
pub mod Refused
pub mod StayFormed
pub mod Tables
pub mod TestNames
pub mod Unrefused
pub mod Within
mod AcceptedItems
mod AcceptedRows
mod Deprecated
pub mod UntouchedTests
pub mod Reaching
pub mod ItemChanges
pub mod CheckChanges
pub mod ChainChanges
pub mod DeprecationChanges
pub mod EntryChanges
pub mod Untouched
pub mod Differing
pub use Rattle.cpe_name.proofs as cpe_name
