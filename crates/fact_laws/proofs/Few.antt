-- Lemmas: lawful rows have few probes and few targets.
use Rattle.std.proofs.Common.{◌≡◌, ◌*◌, ◌≤◌, Bool, true, false, cond, List, [], ◌∷◌, ◌++◌, length, refl, sym, ap, subst, inl, inr, arith}
use Rattle.std.specs.List.{list_any, flat_map}
use Rattle.std.proofs.lemmas.Bool.{or_cases, or_parts, ltb-false}
use Rattle.std.proofs.lemmas.List.{length-map, length-append}
use Rattle.cpe_rows.specs.cpe_name.Eleven.{Values}
use Rattle.cpe_rows.specs.Chains.{ends}
use Rattle.cpe_rows.specs.FactNames.{fact_names, number_of_facts}
use Rattle.cpe_rows.specs.Lawful.{IsLawful}
use Rattle.cpe_rows.specs.Limits.{is_wide}
use Rattle.cpe_rows.specs.Rows.{Rows, is_named}
use Rattle.cpe_rows.specs.declared.entry.Entry.{Entry}
use Rattle.cpe_rows.specs.declared.fault.Which.TheVariants as limit
use Rattle.cpe_rows.specs.declared.statement.Mode.{Mode}
use Rattle.cpe_rows.specs.declared.statement.Mode.TheVariants.{Plain, Follow}
use Rattle.cpe_rows.specs.declared.statement.Statement.{Statement}
use Rattle.cpe_rows.proofs.Added.{own_end}
use Rattle.cpe_rows.proofs.Limited.{each_within}
use Rattle.cpe_rows.proofs.NameTests.{same_is}
use Rattle.fact_laws.proofs.Different.{fewer_different}
use Rattle.fact_laws.specs.Asked.{asked, entry_names, statement_facts, leads, names_of_rows, references_in, references_of, same_mode, target_names}

one_of_both : (p q : Entry → Bool) (es : List Entry) → list_any p es ≡ true → list_any q es ≡ false → (e : Entry) × (p e ≡ true) × (q e ≡ false)
one_of_both p q [] h none = absurd cc
one_of_both p q (e ∷ es) h none = elim (or_cases (p e) (list_any p es) h) [
  | inl t ↦ (e, t, (or_parts (q e) (list_any q es) none).0)
  | inr later ↦ one_of_both p q es later (or_parts (q e) (list_any q es) none).1
]

ends_few : (es : List Entry) (n : Values) → list_any (is_wide es) es ≡ false → length (ends es n) ≤ 256
ends_few es n none = by (list_any (is_named n) es) refl
  where
    by : (b : Bool) → list_any (is_named n) es ≡ b → length (ends es n) ≤ 256
    by false e = omega (arith, ap length (own_end es n e))
    by true e =
        let w = one_of_both (is_named n) (is_wide es) es e none in
        subst (λ (m : Values). length (ends es m) ≤ 256) (sym ((same_is n w.0.name).0 w.1)) (ltb-false 256 (length (ends es w.0.name)) w.2)

leads_few : (es : List Entry) (mode : Mode) (n : Values) → list_any (is_wide es) es ≡ false → length (leads es mode n) ≤ 256
leads_few es Plain n none = omega arith
leads_few es Follow n none = ends_few es n none

all_few : (g : Values → List Values) → ((n : Values) → length (g n) ≤ 256) → (ns : List Values) → length (flat_map g ns) ≤ 256 * length ns
all_few g few [] = omega arith
all_few g few (n ∷ ns) = omega (arith, length-append (g n) (flat_map g ns), few n, all_few g few ns)

references_fewer : (mode : Mode) (s : Statement) → length (references_of mode s) ≤ length (fact_names s.test)
references_fewer mode s = by (same_mode mode s.mode)
  where
    by : (b : Bool) → length (cond b (fact_names s.test) []) ≤ length (fact_names s.test)
    by true = omega arith
    by false = omega arith

all_references_fewer : (mode : Mode) (ss : List Statement) → length (references_in mode ss) ≤ number_of_facts ss
all_references_fewer mode [] = omega arith
all_references_fewer mode (s ∷ ss) =
    omega (
      arith,
      length-append (references_of mode s) (references_in mode ss),
      length-append (fact_names s.test) (flat_map (λ (t : Statement). fact_names t.test) ss),
      references_fewer mode s,
      all_references_fewer mode ss,
    )

module _ (rows : Rows) (lawful : IsLawful rows) where
  items_few : length rows.items ≤ 1000000
  items_few = ltb-false 1000000 (length rows.items) (each_within rows lawful.within limit.Items)

  facts_few : number_of_facts rows.statements ≤ 1000000
  facts_few = ltb-false 1000000 (number_of_facts rows.statements) (each_within rows lawful.within limit.Facts)

  entries_few : length rows.entries ≤ 2000000
  entries_few = ltb-false 2000000 (length rows.entries) (each_within rows lawful.within limit.Entries)

  pub lead_few : (mode : Mode) (n : Values) → length (leads rows.entries mode n) ≤ 256
  lead_few mode n = leads_few rows.entries mode n lawful.dictionary.no_wide

  pub there_few : (mode : Mode) → length (target_names rows mode) ≤ 256000000
  there_few mode = omega (arith, all_few (leads rows.entries mode) (lead_few mode) rows.items, items_few)

  pub asked_few : (mode : Mode) → length (asked rows mode) ≤ 256000000
  asked_few mode = omega (arith, all_few (leads rows.entries mode) (lead_few mode) (statement_facts mode rows.statements), fewer_different (references_in mode rows.statements), all_references_fewer mode rows.statements, facts_few)

  pub kept_few : length (names_of_rows rows) ≤ 4000000
  kept_few =
      omega (
        arith,
        length-append (entry_names rows.entries ++ rows.items) (flat_map (λ (s : Statement). fact_names s.test) rows.statements),
        length-append (entry_names rows.entries) rows.items,
        length-map rows.entries (λ (e : Entry). e.name),
        items_few,
        entries_few,
        facts_few,
      )
