-- Properties of lawful rows. All accepted edits leave lawful rows.
use Rattle.std.specs.Prelude.{◌≡◌, ◌&&◌, List, [], ◌∷◌, length, Bool, true, false, not}
use Rattle.std.specs.List.{list_any, list_all}
use Rattle.std.specs.Option.{option_map_or}
use Rattle.cpe_name.specs.Eleven.{Values}
use Rattle.cpe_rows.specs.Names.{is_same, is_lower, is_identifier, has_wildcards}
use Rattle.cpe_rows.specs.Rows.{Rows, is_named, has_id, has_key}
use Rattle.cpe_rows.specs.Chains.{successors_of, leads_to}
use Rattle.cpe_rows.specs.Valid.{is_id, is_statement_test}
use Rattle.cpe_rows.specs.Limits.{AreWithin, is_wide}
use Rattle.cpe_rows.specs.Faults.{is_count}
use Rattle.cpe_rows.specs.Formed.{AreFormed}
use Rattle.cpe_rows.specs.declared.entry.Entry.{Entry}
use Rattle.cpe_rows.specs.declared.statement.Statement.{Statement}

-- No two elements of the list are the same, by this test.
abbrev pub are_different : {A : Type 0} → (A → A → Bool) → List A → Bool
are_different same [] = true
are_different same (x ∷ xs) = not (list_any (same x) xs) && are_different same xs

-- The name is in lower case, without specials, and its part, vendor and product are texts.
abbrev pub is_entry_name : Values → Bool
is_entry_name n = is_lower n && is_identifier n && not (has_wildcards n)

-- The deprecation, if there is one, has a number of successors that its kind allows.
abbrev pub has_count : Entry → Bool
has_count e = option_map_or (λ d. is_count d.kind (length d.successors)) e.deprecation true

-- Each successor is an entry.
abbrev pub has_successors : List Entry → Entry → Bool
has_successors entries e = list_all (λ s. list_any (is_named s) entries) (successors_of e)

-- A path leads from a successor of the entry back to the entry.
abbrev pub is_cyclic : List Entry → Entry → Bool
is_cyclic entries e = list_any (λ s. leads_to entries s e.name) (successors_of e)

-- The statement has a valid id, and a test that a statement may have. The names in the test are in lower case.
abbrev pub is_lawful_statement : Statement → Bool
is_lawful_statement s = is_id s.id && is_statement_test s.test

-- properties of lawful entries
pub record IsDictionary (entries : List Entry) : Type 0 where
  pub names : list_all (λ e. is_entry_name e.name) entries ≡ true
  pub names_differ : are_different (λ e. is_named e.name) entries ≡ true
  pub counts : list_all has_count entries ≡ true
  pub successors : list_all (has_successors entries) entries ≡ true
  pub successors_differ : list_all (λ e. are_different is_same (successors_of e)) entries ≡ true
  pub no_cycle : list_any (is_cyclic entries) entries ≡ false
  pub no_wide : list_any (is_wide entries) entries ≡ false

pub record IsLawful (rows : Rows) : Type 0 where
  pub formed : AreFormed rows
  pub dictionary : IsDictionary rows.entries
  pub item_names : list_all is_lower rows.items ≡ true
  pub items_differ : are_different is_same rows.items ≡ true
  pub lawful_statements : list_all is_lawful_statement rows.statements ≡ true
  pub ids_differ : are_different (λ s. has_id s.id) rows.statements ≡ true
  pub keys_differ : are_different (λ c. has_key c.0) rows.checks ≡ true
  pub within : AreWithin rows
