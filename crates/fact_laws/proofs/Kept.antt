-- Lemmas: probes and targets are names of entries, items or facts.
use Rattle.std.proofs.Common.{◌≡◌, ◌⊎◌, Bool, true, false, cond, ◌||◌, List, [], ◌∷◌, ◌++◌, map, sym, ap, ◌∙◌, inl, inr}
use Rattle.std.specs.Prelude.{filter}
use Rattle.std.specs.List.{list_any, flat_map}
use Rattle.std.proofs.lemmas.Bool.{or_cases, or_left, or_right}
use Rattle.std.proofs.lemmas.List.Folds.{list_any-append}
use Rattle.cpe_rows.specs.cpe_name.Eleven.{Values}
use Rattle.cpe_rows.specs.Chains.{chain, is_active}
use Rattle.cpe_rows.specs.FactNames.{fact_names}
use Rattle.cpe_rows.specs.Reach.{is_reached}
use Rattle.cpe_rows.specs.Rows.{Rows, is_named}
use Rattle.cpe_rows.specs.declared.entry.Entry.{Entry}
use Rattle.cpe_rows.specs.declared.statement.Mode.{Mode}
use Rattle.cpe_rows.specs.declared.statement.Mode.TheVariants.{Plain, Follow}
use Rattle.cpe_rows.specs.declared.statement.Statement.{Statement}
use Rattle.cpe_rows.specs.cpe_name.Equal.{same_name}
use Rattle.fact_laws.specs.Shown.{different}
use Rattle.fact_laws.specs.Asked.{asked, entry_names, statement_facts, leads, names_of_rows, references_in, references_of, same_mode, target_names}

module _ (p : Values → Bool) where
  in_filter : (q : Entry → Bool) (es : List Entry) → list_any p (entry_names (filter q es)) ≡ true → list_any p (entry_names es) ≡ true
  in_filter q [] h = h
  in_filter q (e ∷ es) h = by (q e) h (in_filter q es)
    where
      by : (b : Bool) → list_any p (entry_names (cond b (e ∷ filter q es) (filter q es))) ≡ true → (list_any p (entry_names (filter q es)) ≡ true → list_any p (entry_names es) ≡ true) → (p e.name || list_any p (entry_names es)) ≡ true
      by true at later = elim (or_cases (p e.name) (list_any p (entry_names (filter q es))) at) [
        | inl here ↦ or_left (p e.name) (list_any p (entry_names es)) here
        | inr there_ ↦ or_right (p e.name) (list_any p (entry_names es)) (later there_)
      ]
      by false at later = or_right (p e.name) (list_any p (entry_names es)) (later at)

  one_only : (n : Values) → list_any p (n ∷ []) ≡ true → p n ≡ true
  one_only n h = elim (or_cases (p n) false h) [ inl t ↦ t | inr f ↦ absurd cc ]

  -- an end is the name itself, or the name of an entry
  of_leads : (es : List Entry) (mode : Mode) (n : Values) → list_any p (leads es mode n) ≡ true → (p n ≡ true) ⊎ (list_any p (entry_names es) ≡ true)
  of_leads es Plain n h = inl (one_only n h)
  of_leads es Follow n h = by (list_any (is_named n) es) h
    where
      by : (b : Bool) → list_any p (cond b (map (λ (e : Entry). e.name) (filter is_active (chain es n))) (n ∷ [])) ≡ true → (p n ≡ true) ⊎ (list_any p (entry_names es) ≡ true)
      by true at = inr (in_filter (is_reached _ es (is_named n)) es (in_filter is_active (chain es n) at))
      by false at = inl (one_only n at)

  of_all : (es : List Entry) (mode : Mode) (ns : List Values) → list_any p (flat_map (leads es mode) ns) ≡ true → (list_any p ns ≡ true) ⊎ (list_any p (entry_names es) ≡ true)
  of_all es mode [] h = absurd cc
  of_all es mode (n ∷ ns) h = elim (or_cases (list_any p (leads es mode n)) (list_any p (flat_map (leads es mode) ns)) (sym (list_any-append p (leads es mode n) (flat_map (leads es mode) ns)) ∙ h)) [
    | inl here ↦ elim (of_leads es mode n here) [ inl t ↦ inl (or_left (p n) (list_any p ns) t) | inr e ↦ inr e ]
    | inr later ↦ elim (of_all es mode ns later) [ inl t ↦ inl (or_right (p n) (list_any p ns) t) | inr e ↦ inr e ]
  ]

  in_different : (ns : List Values) → list_any p (different ns) ≡ true → list_any p ns ≡ true
  in_different [] h = h
  in_different (n ∷ ns) h = by (list_any (same_name n) ns) h (in_different ns)
    where
      by : (b : Bool) → list_any p (cond b (different ns) (n ∷ different ns)) ≡ true → (list_any p (different ns) ≡ true → list_any p ns ≡ true) → (p n || list_any p ns) ≡ true
      by true at later = or_right (p n) (list_any p ns) (later at)
      by false at later = elim (or_cases (p n) (list_any p (different ns)) at) [
        | inl here ↦ or_left (p n) (list_any p ns) here
        | inr there_ ↦ or_right (p n) (list_any p ns) (later there_)
      ]

  -- the fact references of a mode are among all fact references
  references_of_all : (mode : Mode) (s : Statement) → list_any p (references_of mode s) ≡ true → list_any p (fact_names s.test) ≡ true
  references_of_all mode s h = by (same_mode mode s.mode) h
    where
      by : (b : Bool) → list_any p (cond b (fact_names s.test) []) ≡ true → list_any p (fact_names s.test) ≡ true
      by true at = at
      by false at = absurd cc

  references_in_all : (mode : Mode) (ss : List Statement) → list_any p (references_in mode ss) ≡ true → list_any p (flat_map (λ (s : Statement). fact_names s.test) ss) ≡ true
  references_in_all mode [] h = h
  references_in_all mode (s ∷ ss) h =
      list_any-append p (fact_names s.test) (flat_map (λ (t : Statement). fact_names t.test) ss)
      ∙ elim (or_cases (list_any p (references_of mode s)) (list_any p (references_in mode ss)) (sym (list_any-append p (references_of mode s) (references_in mode ss)) ∙ h)) [
        | inl here ↦ or_left (list_any p (fact_names s.test)) (list_any p (flat_map (λ (t : Statement). fact_names t.test) ss)) (references_of_all mode s here)
        | inr later ↦ or_right (list_any p (fact_names s.test)) (list_any p (flat_map (λ (t : Statement). fact_names t.test) ss)) (references_in_all mode ss later)
      ]

  facts_in_all : (mode : Mode) (ss : List Statement) → list_any p (statement_facts mode ss) ≡ true → list_any p (flat_map (λ (s : Statement). fact_names s.test) ss) ≡ true
  facts_in_all mode ss h = references_in_all mode ss (in_different (references_in mode ss) h)

  module _ (rows : Rows) where
    abbrev names : List Values
    names = entry_names rows.entries

    abbrev facts : List Values
    facts = flat_map (λ (s : Statement). fact_names s.test) rows.statements

    kept_is : list_any p (names_of_rows rows) ≡ ((list_any p names || list_any p rows.items) || list_any p facts)
    kept_is = list_any-append p (names ++ rows.items) facts ∙ ap (λ (b : Bool). b || list_any p facts) (list_any-append p names rows.items)

    of_entry : list_any p names ≡ true → list_any p (names_of_rows rows) ≡ true
    of_entry h = kept_is ∙ or_left (list_any p names || list_any p rows.items) (list_any p facts) (or_left (list_any p names) (list_any p rows.items) h)

    of_item : list_any p rows.items ≡ true → list_any p (names_of_rows rows) ≡ true
    of_item h = kept_is ∙ or_left (list_any p names || list_any p rows.items) (list_any p facts) (or_right (list_any p names) (list_any p rows.items) h)

    of_fact : list_any p facts ≡ true → list_any p (names_of_rows rows) ≡ true
    of_fact h = kept_is ∙ or_right (list_any p names || list_any p rows.items) (list_any p facts) h

pub asked_kept : (rows : Rows) (mode : Mode) (p : Values → Bool) → list_any p (asked rows mode) ≡ true → list_any p (names_of_rows rows) ≡ true
asked_kept rows mode p h = elim (of_all p rows.entries mode (statement_facts mode rows.statements) h) [
  | inl t ↦ of_fact p rows (facts_in_all p mode rows.statements t)
  | inr e ↦ of_entry p rows e
]

pub there_kept : (rows : Rows) (mode : Mode) (p : Values → Bool) → list_any p (target_names rows mode) ≡ true → list_any p (names_of_rows rows) ≡ true
there_kept rows mode p h = elim (of_all p rows.entries mode rows.items h) [ inl t ↦ of_item p rows t | inr e ↦ of_entry p rows e ]
