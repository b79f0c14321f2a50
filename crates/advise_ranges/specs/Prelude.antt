-- Definitions that most contracts over advisories and items use, in one place.
pub use Rattle.advise_ranges.specs.Valid.{is_valid_advisory, is_valid_advice_edit, is_valid_advice_query}
pub use Rattle.advise_ranges.specs.Rows.{AdviceRows, has_advisory_id, no_advice_rows}
pub use Rattle.advise_ranges.specs.Affected.{affects, is_in_range}
pub use Rattle.advise_ranges.specs.Answers.{advice_answer, advice_looks}
pub use Rattle.advise_ranges.specs.Step.{AdviceApplied, after_advice, advice_faults, full_advice_by, is_any_attribute, advise_step}
pub use Rattle.advise_ranges.specs.Kept.{IsWeight, advisory_from, advice_rows_in}
pub use Rattle.advise_ranges.specs.Weight.{advisory_weight, bound_bytes, advice_weight}
