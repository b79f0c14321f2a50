pub mod formers
pub mod Names
pub mod Date
pub mod Filling
pub mod Formed
pub mod Lent
pub mod Truth
pub mod Evaluation
pub mod Negation
pub mod Shape
pub mod FactNames
pub mod Reach
pub mod Rows
pub mod Chains
pub mod Verdict
pub mod Weight
pub mod Limits
pub mod Counts
pub mod Valid
pub mod After
pub mod Faults
pub mod Causes
pub mod Step
pub mod Applied
pub mod Answers
pub mod Changes
pub mod Lawful
pub mod Accepted
pub mod Prelude
pub mod Touching
pub use Rattle.cpe_name.specs as cpe_name
pub use Rattle.cpe_values.specs as cpe_values
pub use Rattle.cpe_relation.specs as cpe_relation
pub use Rattle.cpe_fs.specs as cpe_fs
