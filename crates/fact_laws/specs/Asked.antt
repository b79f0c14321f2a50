-- The probes and targets of rows: names as they are, or the ends of their chains (NIST IR 7697).
use Rattle.std.specs.Prelude.{Bool, true, false, not, ◌&&◌, if◌then◌else◌, List, [], ◌∷◌, ◌++◌, map, filter}
use Rattle.std.specs.List.{flat_map, list_any}
use Rattle.cpe_rows.specs.cpe_name.Eleven.{Values}
use Rattle.cpe_rows.specs.Chains.{ends, leads_to}
use Rattle.cpe_rows.specs.FactNames.{fact_names}
use Rattle.cpe_rows.specs.Names.{is_same}
use Rattle.cpe_rows.specs.Rows.{Rows}
use Rattle.cpe_rows.specs.declared.entry.Entry.{Entry}
use Rattle.cpe_rows.specs.declared.statement.Mode.{Mode}
use Rattle.cpe_rows.specs.declared.statement.Mode.TheVariants.{Plain, Follow}
use Rattle.cpe_rows.specs.declared.statement.Statement.{Statement}
use Rattle.fact_laws.specs.Shown.{different}

-- the names to which a name leads in a mode: itself, or its ends
abbrev pub leads : List Entry → Mode → Values → List Values
leads entries Plain n = n ∷ []
leads entries Follow n = ends entries n

abbrev pub same_mode : Mode → Mode → Bool
same_mode Plain Plain = true
same_mode Plain Follow = false
same_mode Follow Plain = false
same_mode Follow Follow = true

-- the fact references of a statement, if it has the mode
abbrev pub references_of : Mode → Statement → List Values
references_of mode s = if same_mode mode s.mode then fact_names s.test else []

-- the facts of a statement, if it has the mode: each once, however often the statement refers to it
abbrev pub names_of_facts : Mode → Statement → List Values
names_of_facts mode s = if same_mode mode s.mode then different (fact_names s.test) else []

-- the statement has the mode, and refers to the fact
abbrev pub refers_to : Mode → Values → Statement → Bool
refers_to mode fact s = same_mode mode s.mode && list_any (is_same fact) (fact_names s.test)

-- all fact references of a mode, with all repetitions
abbrev pub references_in : Mode → List Statement → List Values
references_in mode statements = flat_map (references_of mode) statements

-- the facts of a mode: each once, however many statements refer to it
abbrev pub statement_facts : Mode → List Statement → List Values
statement_facts mode statements = different (references_in mode statements)

-- one of these statements refers to the fact
abbrev pub is_referred : Mode → List Statement → Values → Bool
is_referred mode statements fact = list_any (refers_to mode fact) statements

-- the facts of a statement to which none of the other statements refers
abbrev pub fresh_facts : Mode → List Statement → Statement → List Values
fresh_facts mode others s = filter (λ fact. not (is_referred mode others fact)) (names_of_facts mode s)

-- the probes of a mode: the names to which its facts lead; `there` has the targets: the names to which the items lead
abbrev pub asked : Rows → Mode → List Values
asked rows mode = flat_map (leads rows.entries mode) (statement_facts mode rows.statements)

abbrev pub target_names : Rows → Mode → List Values
target_names rows mode = flat_map (leads rows.entries mode) rows.items

-- a name of the first list has the relation to a name of the second list
abbrev pub is_one : (Values → Values → Bool) → List Values → List Values → Bool
is_one relates names others = list_any (λ f. list_any (relates f) others) names

abbrev pub entry_names : List Entry → List Values
entry_names entries = map (λ (e : Entry). e.name) entries

-- the names of entries, items and fact references, with all repetitions
abbrev pub names_of_rows : Rows → List Values
names_of_rows rows = entry_names rows.entries ++ rows.items ++ flat_map (λ (s : Statement). fact_names s.test) rows.statements

-- the names of the sources of an entry: of the entries that lead to it
abbrev pub source_names : List Entry → Values → List Values
source_names entries n = entry_names (filter (λ (e : Entry). leads_to entries e.name n) entries)
