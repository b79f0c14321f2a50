-- The number of rows of each kind, the number of facts, and the weight.
use Rattle.std.specs.Prelude.{length, filter, not}
use Rattle.cpe_rows.specs.Rows.{Rows}
use Rattle.cpe_rows.specs.Chains.{is_active}
use Rattle.cpe_rows.specs.FactNames.{number_of_facts}
use Rattle.cpe_rows.specs.Weight.{weight}
use Rattle.cpe_rows.specs.declared.counts.Counts.{Counts}

abbrev pub counts_of : Rows → Counts
counts_of rows = record {
  entries = length rows.entries;
  deprecated = length (filter (λ e. not (is_active e)) rows.entries);
  items = length rows.items;
  statements = length rows.statements;
  facts = number_of_facts rows.statements;
  checks = length rows.checks;
  weight = weight rows;
}
