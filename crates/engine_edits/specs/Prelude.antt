-- Definitions that most contracts over the parts of an engine use, in one place.
pub use Rattle.name_index.specs.Table.{IsLive}
pub use Rattle.verdicts.specs.name_registry.Registered.{name_in}
pub use Rattle.verdicts.specs.Leads.{IsReadyLead}
pub use Rattle.verdicts.specs.Verdicts.{known_in}
pub use Rattle.engine_edits.specs.Numbered.{given}
pub use Rattle.engine_edits.specs.Parts.{AreOf, edit_in, rows_in}
pub use Rattle.engine_edits.specs.Planned.{HasPlan}
