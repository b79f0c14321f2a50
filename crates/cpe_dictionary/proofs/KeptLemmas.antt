-- Lemmas: entries that are found by their names.
use Rattle.std.proofs.Common.{◌≡◌, List, [], ◌∷◌, ◌++◌, map, filter, Bool, true, false, cond, ◌||◌, refl, ap, ◌∙◌}
use Rattle.std.specs.List.{list_any}
use Rattle.cpe_rows.specs.cpe_name.Eleven.{Values}
use Rattle.cpe_rows.specs.cpe_name.Equal.{same_name}
use Rattle.cpe_rows.specs.Names.{is_same}
use Rattle.cpe_rows.specs.Rows.{is_named}
use Rattle.cpe_rows.specs.Answers.{rows_found, row_of}
use Rattle.cpe_rows.specs.declared.entry.Entry.{Entry}
use Rattle.cpe_rows.specs.declared.reply.Row.{Row}
use Rattle.cpe_rows.proofs.Lists.{both_pass}
use Rattle.cpe_rows.specs.cpe_relation.NameRelation.{covers}
use Rattle.names_in_order.specs.Places.{places_covered, rows_at}
use Rattle.names_in_order.proofs.Rows.{covered_rows}
use Rattle.cpe_dictionary.specs.Listed.{is_wanted_entry, names_of_entries}

pub any_named : (n : Values) (es : List Entry) → list_any (same_name n) (names_of_entries es) ≡ list_any (is_named n) es
unfolding is_same
any_named n [] = refl
any_named n (e ∷ es) = ap (λ (b : Bool). same_name n e.name || b) (any_named n es)

-- ---- the entries that a search finds

pub found_at : (n : Values) (active_only : Bool) (es : List Entry) → map row_of (filter (is_wanted_entry active_only) (rows_at es (places_covered n (names_of_entries es)))) ≡ rows_found n active_only es
found_at n active_only es =
    ap (λ (xs : List Entry). map row_of (filter (is_wanted_entry active_only) xs)) (covered_rows (λ (e : Entry). e.name) n es)
    ∙ ap (map row_of) (both_pass (λ (e : Entry). covers n e.name) (is_wanted_entry active_only) es)

-- the summaries of the wanted entries
abbrev pub wanted_rows : Bool → List Entry → List Row
wanted_rows active_only es = map row_of (filter (is_wanted_entry active_only) es)

prefix : (b : Bool) (e : Entry) (xs : List Entry) → map row_of (cond b (e ∷ xs) xs) ≡ map row_of (cond b (e ∷ []) []) ++ map row_of xs
prefix true e xs = refl
prefix false e xs = refl

pub wanted_rows-cons : (active_only : Bool) (e : Entry) (es : List Entry) → wanted_rows active_only (e ∷ es) ≡ wanted_rows active_only (e ∷ []) ++ wanted_rows active_only es
wanted_rows-cons active_only e es = prefix (is_wanted_entry active_only e) e (filter (is_wanted_entry active_only) es)
