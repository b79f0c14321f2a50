pub mod Standing
pub mod Folded
pub mod Matching
pub mod MatchTests
pub mod Table
pub mod Related
pub mod NameRelation
pub mod Laws
pub mod Attributes
pub mod Order
pub mod Near
pub mod Maybe
pub mod Prelude
pub use Rattle.cpe_values.specs as cpe_values
