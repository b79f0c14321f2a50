-- Lemmas: the empty rows are lawful, and an accepted entry leaves lawful rows.
use Rattle.std.proofs.Common.{◌≡◌, ◌||◌, ◌&&◌, List, [], ◌∷◌, true, false, not, nat_lt, cond, length, map, Option, Some, None, refl, ap, sym, ◌∙◌, subst}
use Rattle.std.specs.Prelude.{is_none, filter}
use Rattle.std.specs.Option.{option_map_or}
use Rattle.std.specs.List.{list_any, list_all}
use Rattle.std.proofs.lemmas.Bool.{or_left, and_from, and_parts, not-false, not_from_false}
use Rattle.std.proofs.lemmas.List.Folds.{list_any-append}
use Rattle.cpe_name.specs.Eleven.{Values}
use Rattle.cpe_rows.specs.Names.{is_same, is_lower, is_identifier, has_wildcards}
use Rattle.cpe_rows.specs.Rows.{Rows, no_rows, is_named}
use Rattle.cpe_rows.specs.Chains.{successors_of, is_active, chain, ends, leads_to}
use Rattle.cpe_rows.specs.Limits.{limited, exceeds, is_wide}
use Rattle.cpe_rows.specs.declared.limits.TheConstants.{MOST_ENDS}
use Rattle.cpe_rows.specs.After.{after}
use Rattle.cpe_rows.specs.Faults.{is_count}
use Rattle.cpe_rows.specs.Lawful.{IsLawful, IsDictionary, is_entry_name, has_count, has_successors, is_cyclic, are_different}
use Rattle.cpe_rows.specs.Accepted.{IsAccepted}
use Rattle.cpe_rows.specs.declared.entry.Entry.{Entry}
use Rattle.cpe_rows.specs.declared.entry.Deprecation.{Deprecation}
use Rattle.cpe_rows.specs.declared.edit.Edit.TheVariants as edit
use Rattle.cpe_rows.specs.declared.fault.EditFault.TheVariants as fault
use Rattle.cpe_rows.proofs.Lists.{not_found, each_element, all_elements, same_any, any_with_last, all_with_last, different_with_last}
use Rattle.cpe_rows.proofs.NameTests.{not_same}
use Rattle.cpe_rows.proofs.Unrefused.{IsUnrefused, unrefused, none_when}
use Rattle.cpe_rows.proofs.StayFormed.{formed_at_start, stay_formed}
use Rattle.cpe_rows.proofs.Added as added

pub at_start : IsLawful no_rows
at_start = record {
  formed = formed_at_start;
  dictionary = record { names = refl; names_differ = refl; counts = refl; successors = refl; successors_differ = refl; no_cycle = refl; no_wide = refl };
  item_names = refl;
  items_differ = refl;
  lawful_statements = refl;
  ids_differ = refl;
  keys_differ = refl;
  within = refl;
}

none_from : {A : Type 0} (o : Option A) → is_none o ≡ true → o ≡ None
none_from (Some x) h = let wrong : ⊥ = cc in absurd wrong
none_from None h = refl

module _ (rows next : Rows) (e : Entry) (h : IsAccepted rows (edit.Entry e) next) where
  abbrev left : Rows
  left = after rows (edit.Entry e)

  result : IsUnrefused rows (edit.Entry e) × (left ≡ next)
  result = unrefused h

  is_valid : (is_lower e.name ≡ true) × (is_none e.deprecation ≡ true)
  is_valid = and_parts (is_lower e.name) (is_none e.deprecation) h.valid

  new : list_any (is_named e.name) rows.entries ≡ false
  new = none_when (list_any (is_named e.name) rows.entries) fault.Exists result.0.1.1.0

  active : e.deprecation ≡ None
  active = none_from e.deprecation is_valid.1

  before : IsDictionary rows.entries
  before = h.lawful.dictionary

  no_successors : successors_of e ≡ []
  no_successors = added.no_successors rows.entries e new active before.successors

  named : is_entry_name e.name ≡ true
  named = and_from (is_lower e.name && is_identifier e.name) (not (has_wildcards e.name))
      (and_from (is_lower e.name) (is_identifier e.name) is_valid.0 (not-false (is_identifier e.name) (none_when (not (is_identifier e.name)) fault.NotIdentifier result.0.0)))
      (not_from_false (has_wildcards e.name) (none_when (has_wildcards e.name) fault.Wildcards result.0.1.0))

  -- Each name that had an entry has one after the edit.
  still : (ss : List Values) → list_all (λ s. list_any (is_named s) rows.entries) ss ≡ true → list_all (λ s. list_any (is_named s) left.entries) ss ≡ true
  still [] t = refl
  still (s ∷ ss) t = let parts = and_parts (list_any (is_named s) rows.entries) (list_all (λ s. list_any (is_named s) rows.entries) ss) t in
      and_from (list_any (is_named s) left.entries) (list_all (λ s. list_any (is_named s) left.entries) ss)
      (list_any-append (is_named s) rows.entries (e ∷ []) ∙ or_left (list_any (is_named s) rows.entries) (list_any (is_named s) (e ∷ [])) parts.0)
      (still ss parts.1)

  -- Successors lead to the same names as before.
  same_leads : (n : Values) (ss : List Values) → list_all (λ s. list_any (is_named s) rows.entries) ss ≡ true → list_any (λ s. leads_to left.entries s n) ss ≡ list_any (λ s. leads_to rows.entries s n) ss
  same_leads n [] t = refl
  same_leads n (s ∷ ss) t = let parts = and_parts (list_any (is_named s) rows.entries) (list_all (λ s. list_any (is_named s) rows.entries) ss) t in
      λ i. list_any (is_named n) (added.other_chain rows.entries e new active before.successors s (added.is_other rows.entries e new active before.successors s parts.0) i) || same_leads n ss parts.1 i

  pub same_ends : (n : Values) → ends left.entries n ≡ ends rows.entries n
  same_ends = added.same_ends rows.entries e new active before.successors

  same_width : (a : Entry) → is_wide left.entries a ≡ is_wide rows.entries a
  same_width a = ap (λ (l : List Values). nat_lt MOST_ENDS (length l)) (same_ends a.name)

  not_wide : is_wide left.entries e ≡ false
  not_wide = same_width e ∙ (λ i. nat_lt MOST_ENDS (length (cond (new i) (map (λ x. x.name) (filter is_active (chain rows.entries e.name))) (e.name ∷ []))))

  dictionary : IsDictionary left.entries
  dictionary = record {
    names = all_with_last (λ a. is_entry_name a.name) rows.entries e named ∙ before.names;
    names_differ = different_with_last (λ a. is_named a.name) rows.entries e (λ a m. not_same e.name a.name (added.unnamed rows.entries e new active before.successors a m)) ∙ before.names_differ;
    counts = all_with_last has_count rows.entries e (ap (λ (d : Option Deprecation). option_map_or (λ d. is_count d.kind (length d.successors)) d true) active) ∙ before.counts;
    successors =
        all_with_last (has_successors left.entries) rows.entries e (ap (list_all (λ s. list_any (is_named s) left.entries)) no_successors)
        ∙ all_elements (has_successors left.entries) rows.entries (λ a m. still (successors_of a) (each_element (has_successors rows.entries) rows.entries before.successors a m));
    successors_differ = all_with_last (λ a. are_different is_same (successors_of a)) rows.entries e (ap (are_different is_same) no_successors) ∙ before.successors_differ;
    no_cycle =
        any_with_last (is_cyclic left.entries) rows.entries e (ap (list_any (λ s. leads_to left.entries s e.name)) no_successors)
        ∙ (same_any (is_cyclic left.entries) (is_cyclic rows.entries) rows.entries (λ a m. same_leads a.name (successors_of a) (each_element (has_successors rows.entries) rows.entries before.successors a m)) ∙ before.no_cycle);
    no_wide = any_with_last (is_wide left.entries) rows.entries e not_wide ∙ (same_any (is_wide left.entries) (is_wide rows.entries) rows.entries (λ a m. same_width a) ∙ before.no_wide);
  }

  stays : IsLawful left
  stays = record {
    formed = stay_formed rows (edit.Entry e) h.lawful.formed h.formed;
    dictionary = dictionary;
    item_names = h.lawful.item_names;
    items_differ = h.lawful.items_differ;
    lawful_statements = h.lawful.lawful_statements;
    ids_differ = h.lawful.ids_differ;
    keys_differ = h.lawful.keys_differ;
    within = not_found fault.Full (exceeds left) limited result.0.1.1.1.0;
  }

  pub lawful : IsLawful next
  lawful = subst IsLawful result.1 stays

  pub next_ends : (n : Values) → ends next.entries n ≡ ends rows.entries n
  next_ends n = ap (λ (r : Rows). ends r.entries n) (sym result.1) ∙ same_ends n

  pub next_chain : (n : Values) → is_same n e.name ≡ false → chain next.entries n ≡ chain rows.entries n
  next_chain n other = ap (λ (r : Rows). chain r.entries n) (sym result.1) ∙ added.other_chain rows.entries e new active before.successors n other
