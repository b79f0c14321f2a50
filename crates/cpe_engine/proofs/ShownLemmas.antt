-- The first item that names cover or may cover, by the names to which it leads.
use Rattle.std.proofs.Common.{◌≡◌, Bool, true, false, cond, not, ◌||◌, ◌&&◌, List, [], ◌∷◌, ◌++◌, filter, map, Some, refl, sym, ap, ◌∙◌}
use Rattle.std.specs.Prelude.{find}
use Rattle.std.specs.List.{AllByRecursion, list_all, list_any}
use Rattle.std.proofs.lemmas.Bool.{and_parts, or_left, or_right}
use Rattle.std.proofs.lemmas.List.Folds.{list_any-append}
use Rattle.std.proofs.lemmas.List.{map-append}
use Rattle.cpe_rows.specs.cpe_name.Eleven.{Values}
use Rattle.cpe_rows.specs.cpe_name.Lower.{IsLower}
use Rattle.cpe_rows.specs.Chains.{chain, ends, is_active}
use Rattle.cpe_rows.specs.Lawful.{is_entry_name, IsDictionary}
use Rattle.cpe_rows.specs.Names.{has_wildcards, is_identifier, is_lower, is_same}
use Rattle.cpe_rows.specs.Rows.{is_named, Rows}
use Rattle.cpe_rows.specs.Verdict.{is_followed}
use Rattle.cpe_rows.specs.declared.entry.Entry.{Entry}
use Rattle.cpe_rows.specs.declared.statement.Mode.{Mode}
use Rattle.cpe_rows.specs.declared.statement.Mode.TheVariants.{Plain, Follow}
use Rattle.cpe_rows.proofs.NameTests.{is_lower_is, same_is}
use Rattle.name_index.specs.declared.table.NameId.{NameId}
use Rattle.name_index.specs.Table.{Names}
use Rattle.engine_edits.specs.fact_laws.Asked.{leads}
use Rattle.engine_edits.specs.fact_laws.Shown.{name_at, names_at}
use Rattle.certificate_search.specs.certificate_check.Leading.{followed}
use Rattle.certificate_search.specs.certificate_check.Relates.{related}
use Rattle.certificate_search.specs.certificate_check.declared.relates.Relates.{Relates}
use Rattle.verdicts.specs.Items.{AreItemsTo}
use Rattle.cpe_engine.specs.Shown.{AreShown}

-- ---- if a name is in lower case, its ends are

kept_all : (q p : Entry → Bool) (es : List Entry) → list_all q es ≡ true → list_all q (filter p es) ≡ true
kept_all q p [] all = refl
kept_all q p (e ∷ es) all = by (p e) (kept_all q p es parts.1)
  where
    parts : (q e ≡ true) × (list_all q es ≡ true)
    parts = and_parts (q e) (list_all q es) all

    by : (b : Bool) → list_all q (filter p es) ≡ true → list_all q (cond b (e ∷ filter p es) (filter p es)) ≡ true
    by true rest = ap (λ (b : Bool). b && list_all q (filter p es)) parts.0 ∙ rest
    by false rest = rest

lower_names : (es : List Entry) → list_all (λ (e : Entry). is_entry_name e.name) es ≡ true → AllByRecursion IsLower (map (λ (e : Entry). e.name) es)
lower_names [] all = tt
lower_names (e ∷ es) all =
    let parts = and_parts (is_entry_name e.name) (list_all (λ (x : Entry). is_entry_name x.name) es) all in
    ((is_lower_is e.name).0 (first e.name parts.0), lower_names es parts.1)
  where
    first : (n : Values) → is_entry_name n ≡ true → is_lower n ≡ true
    first n h = (and_parts (is_lower n) (is_identifier n) (and_parts (is_lower n && is_identifier n) (not (has_wildcards n)) h).0).0

ends_lower : (es : List Entry) (n : Values) → IsDictionary es → IsLower n → AllByRecursion IsLower (ends es n)
ends_lower es n lawful lower = by (list_any (is_named n) es)
  where
    by : (b : Bool) → AllByRecursion IsLower (cond b (map (λ (e : Entry). e.name) (filter is_active (chain es n))) (n ∷ []))
    by true = lower_names (filter is_active (chain es n)) (kept_all _ is_active (chain es n) (kept_all _ _ es lawful.names))
    by false = (lower, tt)

-- the names to which it leads are in lower case too, in either mode
pub leads_lower : (rows : Rows) (mode : Mode) (n : Values) → IsDictionary rows.entries → IsLower n → AllByRecursion IsLower (leads rows.entries mode n)
leads_lower rows Plain n lawful lower = (lower, tt)
leads_lower rows Follow n lawful lower = ends_lower rows.entries n lawful lower

-- ---- the items of one more name

pub shown_more : (table : Names) (rows : Rows) (mode : Mode) (relates : Relates) (names : List Values) (n : Values) (found items : List NameId) → AreShown rows mode relates names (names_at table found)
    → AreItemsTo rows mode (related relates n) (names_at table items) → AreShown rows mode relates (names ++ n ∷ []) (names_at table (found ++ items))
shown_more table rows mode relates names n found items shown more i item =
    ap (list_any (is_same i)) (map-append (name_at table) found items)
    ∙ list_any-append (is_same i) (names_at table found) (names_at table items)
    ∙ (λ j. shown i item j || more i item j)
    ∙ ap (λ (b : Bool). list_any shows names || b) (alone (shows n))
    ∙ sym (list_any-append shows names (n ∷ []))
  where
    shows : Values → Bool
    shows f = list_any (related relates f) (leads rows.entries mode i)

    alone : (b : Bool) → b ≡ (b || false)
    alone true = refl
    alone false = refl

-- ---- the first of these items

first_same : (p q : Values → Bool) (items : List Values) → ((n : Values) → list_any (is_same n) items ≡ true → p n ≡ q n) → find p items ≡ find q items
first_same p q [] same = refl
first_same p q (n ∷ items) same =
    ap (λ (b : Bool). cond b (Some n) (find p items)) (same n (or_left (is_same n n) (list_any (is_same n) items) ((same_is n n).1 refl)))
    ∙ ap (cond (q n) (Some n)) (first_same p q items (λ m among. same m (or_right (is_same m n) (list_any (is_same m) items) among)))

pub first_shown : (rows : Rows) (mode : Mode) (relates : Relates) (n : Values) (found : List Values) → AreShown rows mode relates (leads rows.entries mode n) found
    → find (λ i. list_any (is_same i) found) rows.items ≡ find (is_followed (related relates) (followed rows mode) n) rows.items
first_shown rows Plain relates n found shown = first_same (λ i. list_any (is_same i) found) (is_followed (related relates) [] n) rows.items shown
first_shown rows Follow relates n found shown = first_same (λ i. list_any (is_same i) found) (is_followed (related relates) rows.entries n) rows.items shown
