pub mod Verdicts
pub mod Items
pub mod Addition
pub mod Leads
pub mod Rows
pub mod Removal
pub use Rattle.facts.specs as facts
pub use Rattle.name_registry.specs as name_registry
pub use Rattle.name_registry.specs.names_in_order as names_in_order
pub use Rattle.cpe_dictionary.specs as cpe_dictionary
pub use Rattle.statement_rows.specs as statement_rows
