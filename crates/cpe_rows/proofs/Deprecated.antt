-- Lemmas: accepted edits of deprecations leave lawful rows.
use Rattle.std.proofs.Common.{◌≡◌, ℕ, List, [], ◌∷◌, ◌++◌, Bool, true, false, not, length, Option, Some, None, refl, ap, ◌∙◌, subst}
use Rattle.std.specs.Option.{option_map_or}
use Rattle.std.specs.List.{list_any, list_all, AllByRecursion}
use Rattle.std.proofs.lemmas.Bool.{not-false}
use Rattle.cpe_name.specs.Eleven.{Values}
use Rattle.cpe_rows.specs.Names.{is_same}
use Rattle.cpe_rows.specs.Rows.{Rows, is_named, is_entry}
use Rattle.cpe_rows.specs.Chains.{successors_of, leads_to}
use Rattle.cpe_rows.specs.Limits.{limited, exceeds, is_wide}
use Rattle.cpe_rows.specs.After.{changed, deprecated}
use Rattle.cpe_rows.specs.Formed.{AreFormed}
use Rattle.cpe_rows.specs.Faults.{full, too_wide, is_count, successor_faults, repeated_from}
use Rattle.cpe_rows.specs.Lawful.{IsLawful, IsDictionary, is_entry_name, has_count, has_successors, are_different}
use Rattle.cpe_rows.specs.Accepted.{IsAccepted}
use Rattle.cpe_rows.specs.declared.entry.Entry.{Entry}
use Rattle.cpe_rows.specs.declared.entry.Deprecation.{Deprecation}
use Rattle.cpe_rows.specs.declared.entry.NoteKind.{NoteKind}
use Rattle.cpe_rows.specs.declared.entry.NoteKind.TheVariants as note
use Rattle.cpe_rows.specs.declared.edit.Edit.TheVariants as edit
use Rattle.cpe_rows.specs.declared.fault.EditFault.TheVariants as fault
use Rattle.cpe_rows.proofs.Lists.{not_found}
use Rattle.cpe_rows.proofs.NameTests.{not_same}
use Rattle.cpe_rows.proofs.StayFormed.{stay_formed}
use Rattle.cpe_rows.proofs.Unrefused.{unrefused, both_none, none_when, none_mapped, none_placed, all_where_none_not, none_repeated}
use Rattle.cpe_rows.proofs.ChangedEntries.{same_any_changed, same_all_changed, all_changed, different_changed}
use Rattle.cpe_rows.proofs.Cycles.{no_new_cycle}

-- The deprecation, if there is one, has a number of successors that its kind allows.
abbrev IsCounted : Option Deprecation → Type 0
IsCounted d = option_map_or (λ d. is_count d.kind (length d.successors)) d true ≡ true

abbrev successors_in : Option Deprecation → List Values
successors_in d = option_map_or (λ d. d.successors) d []

-- The properties that the successors of a deprecation need: number, known entries, no repetition, no path back to n.
record AreSuccessors (entries : List Entry) (n : Values) (d : Option Deprecation) : Type 0 where
  counted : IsCounted d
  known : list_all (λ s. list_any (is_named s) entries) (successors_in d) ≡ true
  differ : are_different is_same (successors_in d) ≡ true
  apart : list_any (λ s. leads_to entries s n) (successors_in d) ≡ false

no_successors : (entries : List Entry) (n : Values) → AreSuccessors entries n None
no_successors entries n = record { counted = refl; known = refl; differ = refl; apart = refl }

module _ (rows : Rows) (n : Values) (d : Option Deprecation) (kind : NoteKind) (date comment : List ℕ)
    (ok : IsLawful rows) (to : AreSuccessors rows.entries n d) where
  abbrev change : Entry → Entry
  change = deprecated d kind date comment

  abbrev left : Rows
  left = record rows { entries = changed change n rows.entries }

  abbrev before : IsDictionary rows.entries
  before = ok.dictionary

  -- The change adds and removes no names of entries.
  same_entry : (s : Values) → list_any (is_named s) left.entries ≡ list_any (is_named s) rows.entries
  same_entry s = same_any_changed change n (is_named s) (λ e. refl) rows.entries

  same_successors : has_successors left.entries ≡ has_successors rows.entries
  same_successors = λ i e. list_all (λ s. same_entry s i) (successors_of e)

  dictionary : too_wide left ≡ None → IsDictionary left.entries
  dictionary narrow = record {
    names = same_all_changed change n (λ e. is_entry_name e.name) (λ e. refl) rows.entries ∙ before.names;
    names_differ = different_changed change n (λ e. refl) rows.entries ∙ before.names_differ;
    counts = all_changed change n has_count (λ e. to.counted) rows.entries before.counts;
    successors =
        ap (λ (p : Entry → Bool). list_all p left.entries) same_successors
        ∙ all_changed change n (has_successors rows.entries) (λ e. to.known) rows.entries before.successors;
    successors_differ = all_changed change n (λ e. are_different is_same (successors_of e)) (λ e. to.differ) rows.entries before.successors_differ;
    no_cycle = no_new_cycle rows.entries before.names_differ before.no_cycle change n (λ e. refl) (successors_in d) (λ e. refl) to.apart;
    no_wide = not_found (λ e. fault.TooWide e.name) (is_wide left.entries) left.entries narrow;
  }

  stays : AreFormed left → too_wide left ≡ None → full left ≡ None → IsLawful left
  stays formed narrow room = record {
    formed = formed;
    dictionary = dictionary narrow;
    item_names = ok.item_names;
    items_differ = ok.items_differ;
    lawful_statements = ok.lawful_statements;
    ids_differ = ok.ids_differ;
    keys_differ = ok.keys_differ;
    within = not_found fault.Full (exceeds left) limited room;
  }

-- A deprecation without a fault has lawful successors.
module _ (rows : Rows) (n : Values) (d : Deprecation) where
  abbrev miscounted : Bool
  miscounted = not (is_count d.kind (length d.successors))

  not_refused : AllByRecursion (λ o. o ≡ None) (successor_faults rows n d) → AreSuccessors rows.entries n (Some d)
  not_refused h = record {
    counted = not-false (is_count d.kind (length d.successors)) (none_when miscounted fault.BadCount h.0);
    known = all_where_none_not (is_entry rows) d.successors (none_placed fault.UnknownSuccessor (λ s. not (is_entry rows s)) d.successors h.1.0);
    differ = none_repeated is_same not_same d.successors (none_mapped fault.RepeatedSuccessor (repeated_from is_same [] 1 d.successors) h.1.1.0);
    apart = none_placed fault.Cycle (λ s. leads_to rows.entries s n) d.successors h.1.1.1.0;
  }

module _ (rows next : Rows) (n : Values) (d : Deprecation) (date comment : List ℕ) where
  -- The rows stay lawful if the change has no fault, for each kind of note.
  noted_lawful : (kind : NoteKind) → let left : Rows = record rows { entries = changed (deprecated (Some d) kind date comment) n rows.entries } in
      IsLawful rows → AreFormed left → AllByRecursion (λ o. o ≡ None) (successor_faults rows n d ++ too_wide left ∷ full left ∷ []) → IsLawful left
  noted_lawful kind ok formed none =
      let left : Rows = record rows { entries = changed (deprecated (Some d) kind date comment) n rows.entries } in
      let parts = both_none (successor_faults rows n d) (too_wide left ∷ full left ∷ []) none in
      stays rows n (Some d) kind date comment ok (not_refused rows n d parts.0) formed parts.1.0 parts.1.1.0

  pub deprecated_lawful : IsAccepted rows (edit.Deprecate n d date comment) next → IsLawful next
  deprecated_lawful h =
      let result = unrefused h in
      subst IsLawful result.1 (noted_lawful note.Deprecation h.lawful (stay_formed rows (edit.Deprecate n d date comment) h.lawful.formed h.formed) result.0.1.1)

  pub amended_lawful : IsAccepted rows (edit.Amend n d date comment) next → IsLawful next
  amended_lawful h =
      let result = unrefused h in
      subst IsLawful result.1 (noted_lawful note.DeprecationModification h.lawful (stay_formed rows (edit.Amend n d date comment) h.lawful.formed h.formed) result.0.1.1)

module _ (rows next : Rows) (n : Values) (date comment : List ℕ) where
  pub restored_lawful : IsAccepted rows (edit.Restore n date comment) next → IsLawful next
  restored_lawful h = let result = unrefused h in
      subst IsLawful result.1
      (stays rows n None note.DeprecationModification date comment h.lawful (no_successors rows.entries n)
      (stay_formed rows (edit.Restore n date comment) h.lawful.formed h.formed) result.0.1.1.0 result.0.1.1.1.0)
