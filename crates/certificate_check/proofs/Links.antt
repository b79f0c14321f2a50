-- Lemmas: entries whose names are different, and whose successors are entries.
use Rattle.std.proofs.Common.{◌≡◌, List, [], ◌∷◌, Bool, true, false, Option, Some, None, is_none, ◌||◌, cond, find, refl, ap, sym, ◌∙◌, subst, inl, inr}
use Rattle.std.specs.List.{list_any}
use Rattle.std.specs.Option.{option_map_or}
use Rattle.std.proofs.lemmas.Bool.{true≢false}
use Rattle.cpe_rows.specs.cpe_name.Eleven.{Values}
use Rattle.cpe_rows.specs.Rows.{Rows, is_named}
use Rattle.cpe_rows.specs.Reach.{Among}
use Rattle.cpe_rows.specs.Chains.{successors_of, is_active}
use Rattle.cpe_rows.specs.Lawful.{IsLawful, has_successors}
use Rattle.cpe_rows.specs.declared.entry.Entry.{Entry}
use Rattle.cpe_rows.specs.declared.entry.Deprecation.{Deprecation}
use Rattle.cpe_rows.specs.declared.statement.Mode.{Mode}
use Rattle.cpe_rows.specs.declared.statement.Mode.TheVariants.{Plain, Follow}
use Rattle.cpe_rows.proofs.Lists.{each_element}
use Rattle.cpe_rows.proofs.NameTests.{same_is}
use Rattle.cpe_rows.proofs.Paths.{element_passes, same_entry}
use Rattle.certificate_check.specs.Leading.{followed, deprecation_of, next_of, is_end_of, AreLinkedEntries}

pub linked : (rows : Rows) (mode : Mode) → IsLawful rows → AreLinkedEntries (followed rows mode)
linked rows Plain h = record { named = refl; to_entries = refl }
linked rows Follow h = record { named = h.dictionary.names_differ; to_entries = h.dictionary.successors }

-- the result of a search for a name
pub found_none : (n : Values) (es : List Entry) → list_any (is_named n) es ≡ false → find (is_named n) es ≡ None
found_none n [] h = refl
found_none n (e ∷ es) h = go (is_named n e) h (found_none n es) where
  go : (b : Bool) → (b || list_any (is_named n) es) ≡ false → (list_any (is_named n) es ≡ false → find (is_named n) es ≡ None)
      → cond b (Some e) (find (is_named n) es) ≡ None
  go true k later = absurd (true≢false k)
  go false k later = later k

abbrev pub Found : Values → List Entry → Type 0
Found n es = (e : Entry) × Among es e × (e.name ≡ n) × (find (is_named n) es ≡ Some e)

pub found_some : (n : Values) (es : List Entry) → list_any (is_named n) es ≡ true → Found n es
found_some n [] h = absurd (true≢false (sym h))
found_some n (e ∷ es) h = go (is_named n e) refl h (found_some n es) where
  go : (b : Bool) → is_named n e ≡ b → (b || list_any (is_named n) es) ≡ true → (list_any (is_named n) es ≡ true → Found n es)
      → (x : Entry) × Among (e ∷ es) x × (x.name ≡ n) × (cond b (Some e) (find (is_named n) es) ≡ Some x)
  go true i k later = (e, inl refl, sym ((same_is n e.name).0 i), refl)
  go false i k later = let rest = later k in (rest.0, inr rest.1, rest.2, rest.3)

module _ (es : List Entry) where
  pub deprecation_from : (n : Values) (o : Option Entry) → find (is_named n) es ≡ o
      → deprecation_of es n ≡ option_map_or (λ (e : Entry). e.deprecation) o None
  deprecation_from n o h = ap (λ (x : Option Entry). option_map_or (λ (e : Entry). e.deprecation) x None) h

  abbrev next_in : Option Deprecation → List Values
  next_in o = option_map_or (λ (d : Deprecation). d.successors) o []

  pub next_found : (n : Values) (e : Entry) → find (is_named n) es ≡ Some e → next_of es n ≡ successors_of e
  next_found n e h = ap next_in (deprecation_from n (Some e) h)

  pub end_found : (n : Values) (e : Entry) → find (is_named n) es ≡ Some e → is_end_of es n ≡ is_active e
  end_found n e h = ap is_none (deprecation_from n (Some e) h)

  pub next_absent : (n : Values) → list_any (is_named n) es ≡ false → next_of es n ≡ []
  next_absent n h = ap next_in (deprecation_from n None (found_none n es h))

  pub end_absent : (n : Values) → list_any (is_named n) es ≡ false → is_end_of es n ≡ true
  end_absent n h = ap is_none (deprecation_from n None (found_none n es h))

  -- an end has no successor
  pub end_has_none : (n : Values) → is_end_of es n ≡ true → next_of es n ≡ []
  end_has_none n h = go (deprecation_of es n) h where
    go : (o : Option Deprecation) → is_none o ≡ true → next_in o ≡ []
    go None k = refl
    go (Some d) k = absurd (true≢false (sym k))

  module _ (ok : AreLinkedEntries es) where
    -- the search for an entry's name finds this entry
    pub found_self : (e : Entry) → Among es e → find (is_named e.name) es ≡ Some e
    found_self e m =
        let f = found_some e.name es (element_passes (is_named e.name) es e m ((same_is e.name e.name).1 refl)) in
        f.3 ∙ ap Some (same_entry es ok.named f.0 e f.1 m f.2)

    -- each successor of a name is the name of an entry
    pub next_known : (n m : Values) → Among (next_of es n) m → list_any (is_named m) es ≡ true
    next_known n m k = go (list_any (is_named n) es) refl where
      go : (b : Bool) → list_any (is_named n) es ≡ b → list_any (is_named m) es ≡ true
      go true h =
          let f = found_some n es h in
          each_element (λ s. list_any (is_named s) es) (successors_of f.0) (each_element (has_successors es) es ok.to_entries f.0 f.1) m
          (subst (λ xs. Among xs m) (next_found n f.0 f.3) k)
      go false h = absurd (subst (λ xs. Among xs m) (next_absent n h) k)
