-- The words that most contracts about the rows use, gathered in one file.
pub use Rattle.cpe_name.specs.Eleven.{Values}
pub use Rattle.cpe_name.specs.Lower.{IsLower}
pub use Rattle.cpe_relation.specs.NameRelation.{covers}
pub use Rattle.cpe_relation.specs.Maybe.{maybe}
pub use Rattle.cpe_rows.specs.Names.{is_lower, is_same, has_wildcards}
pub use Rattle.cpe_rows.specs.Rows.{Rows, no_rows, is_named, has_id, has_key, same_key}
pub use Rattle.cpe_rows.specs.Limits.{most}
pub use Rattle.cpe_rows.specs.FactNames.{fact_names, number_of_facts}
pub use Rattle.cpe_rows.specs.Valid.{is_valid_edit}
pub use Rattle.cpe_rows.specs.Lawful.{IsDictionary, IsLawful}
pub use Rattle.cpe_rows.specs.Chains.{chain, ends, is_active, leads_to}
pub use Rattle.cpe_rows.specs.Answers.{answer, row_of, rows_found, state_of}
pub use Rattle.cpe_rows.specs.Verdict.{check_truth, fact_truth, is_followed, truth, verdict}
pub use Rattle.cpe_rows.specs.After.{after, changed, with_check, without_first}
pub use Rattle.cpe_rows.specs.Faults.{when}
pub use Rattle.cpe_rows.specs.Causes.{IsCause, causes}
pub use Rattle.cpe_rows.specs.Step.{first_some, step}
pub use Rattle.cpe_rows.specs.Applied.{Applied, RefusesEdit}
pub use Rattle.cpe_rows.specs.Accepted.{IsAccepted}
pub use Rattle.cpe_rows.specs.Changes.{change, changes, others}
