-- Lemmas: the numbers of the names of entries, by the places of these entries.
use Rattle.std.proofs.Common.{◌≡◌, ℕ, ◌<◌, Bool, true, false, List, [], ◌∷◌, filter, length, map, position, slice_get, refl, sym, ap, subst, ◌∙◌, arith}
use Rattle.std.specs.Prelude.{if◌then◌else◌, Option, Some, None, option_map}
use Rattle.std.specs.List.{cons_option, filter_map, range_with_len}
use Rattle.std.specs.Option.{option_map_or}
use Rattle.std.proofs.lemmas.Option.{slice_get-map, slice_get_within}
use Rattle.cpe_rows.specs.cpe_name.Eleven.{Values}
use Rattle.cpe_rows.specs.Chains.{chain, ends, is_active, leads_to}
use Rattle.cpe_rows.specs.Rows.{is_named}
use Rattle.cpe_rows.specs.declared.entry.Entry.{Entry}
use Rattle.name_index.specs.declared.table.NameId.{NameId}
use Rattle.name_index.specs.Table.{IsLive, Names, kept_at}
use Rattle.names_in_order.specs.InOrder.{AreListedNames as AreLiveAt}
use Rattle.names_in_order.specs.Places.{rows_at}
use Rattle.names_in_order.proofs.Rows.{rows_from}
use Rattle.fact_laws.specs.Shown.{names_at}
use Rattle.cpe_dictionary.proofs.deprecation_graph.Rising.{Contains-filter_range, filter_range_rising, same_rising}
use Rattle.cpe_dictionary.specs.Numbers.{entries_at}
use Rattle.cpe_dictionary.specs.Kept.{entries_in, FitsTable, Stored, entry_names_at as entry_names_at}
use Rattle.cpe_dictionary.specs.Plans.{ends_at, ends_by}
use Rattle.cpe_dictionary.specs.Sources.{AreSourcesOf, IsSource}
use Rattle.cpe_dictionary.specs.declared.plans.Plan.{Plan}
use Rattle.cpe_dictionary.proofs.DictionaryLemmas.{no_entry}
use Rattle.name_registry.specs.Registered.{AreRegistryNames}
use Rattle.name_registry.proofs.FitLemmas.{names_stored}

-- ---- the elements at some places

module _ {A B : Type 0} (f : A → B) where
  map_found : (xs : List A) (ks : List ℕ) → map f (filter_map (slice_get xs) ks) ≡ filter_map (slice_get (map f xs)) ks
  map_found xs [] = refl
  map_found xs (k ∷ ks) = by (slice_get xs k) (map_found xs ks) ∙ ap (λ (o : Option B). cons_option o (filter_map (slice_get (map f xs)) ks)) (sym (slice_get-map f xs k))
    where
      by : (o : Option A) → map f (filter_map (slice_get xs) ks) ≡ filter_map (slice_get (map f xs)) ks → map f (cons_option o (filter_map (slice_get xs) ks)) ≡ cons_option (option_map f o) (filter_map (slice_get (map f xs)) ks)
      by None rest = rest
      by (Some x) rest = ap (λ (ys : List B). f x ∷ ys) rest

found_entries : (es : List Entry) (ks : List ℕ) → entries_at es ks ≡ filter_map (slice_get es) ks
found_entries es [] = refl
found_entries es (k ∷ ks) = ap (cons_option (slice_get es k)) (found_entries es ks)

found_rows : (es : List Entry) (ks : List ℕ) → entries_at es ks ≡ rows_at es ks
found_rows es [] = refl
found_rows es (k ∷ ks) = ap (cons_option (slice_get es k)) (found_rows es ks)

-- ---- the numbers of entries' names

pub names_found : (table : Names) (s : Stored) (ks : List ℕ) → FitsTable table s → names_at table (filter_map (slice_get s.names.numbers) ks) ≡ entry_names_at (entries_in table s) ks
names_found table s ks fits =
    let es = entries_in table s in
    map_found (λ (x : NameId). (kept_at table x.0).name) s.names.numbers ks
    ∙ ap (λ (ns : List Values). filter_map (slice_get ns) ks) (sym (names_stored table s fits))
    ∙ sym (map_found (λ (e : Entry). e.name) es ks)
    ∙ ap (map (λ (e : Entry). e.name)) (sym (found_entries es ks))

pub live_found : (table : Names) (numbers : List NameId) (ks : List ℕ) → AreLiveAt table numbers → AreRegistryNames table (filter_map (slice_get numbers) ks)
live_found table numbers [] live = tt
live_found table numbers (k ∷ ks) live = by (slice_get numbers k) refl (live_found table numbers ks live)
  where
    by : (o : Option NameId) → slice_get numbers k ≡ o → AreRegistryNames table (filter_map (slice_get numbers) ks) → AreRegistryNames table (cons_option o (filter_map (slice_get numbers) ks))
    by None at rest = rest
    by (Some x) at rest = (live k x at, rest)

-- ---- a name without an entry

pub alone_live : (table : Names) (id : NameId) (numbers : List NameId) → IsLive table id.0 → numbers ≡ id ∷ [] → AreRegistryNames table numbers
alone_live table id numbers live is = subst (AreRegistryNames table) (sym is) (live, tt)

pub alone_ends : (es : List Entry) (n : Values) → position (is_named n) es ≡ None → ends es n ≡ n ∷ []
alone_ends es n absent = ap (λ (b : Bool). if b then map (λ (e : Entry). e.name) (filter is_active (chain es n)) else n ∷ []) (no_entry es n absent)

pub alone_by : (es : List Entry) (p : Plan) (n : Values) → position (is_named n) es ≡ None → ends_by es (Some p) n ≡ n ∷ []
alone_by es p n absent = ap (λ (o : Option ℕ). option_map_or (ends_at es p) o (n ∷ [])) absent

-- ---- sources in their order

module _ (es : List Entry) (to : Values) where
  abbrev leads : Entry → Bool
  leads e = leads_to es e.name to

  abbrev leads_at : ℕ → Bool
  leads_at k = option_map_or leads (slice_get es k) false

  agrees : (k : ℕ) (e : Entry) → slice_get es k ≡ Some e → leads_at k ≡ leads e
  agrees k e at = ap (λ (o : Option Entry). option_map_or leads o false) at

  source_at : (k : ℕ) → (k < length es) × (leads_at k ≡ true) → IsSource es to k
  source_at k h = by (slice_get es k) refl h.1
    where
      by : (o : Option Entry) → slice_get es k ≡ o → option_map_or leads o false ≡ true → IsSource es to k
      by None at passes = let wrong : ⊥ = cc in absurd wrong
      by (Some e) at passes = (e, at, passes)

  pub sources_in_order : (ks : List ℕ) → AreSourcesOf es to ks → entries_at es ks ≡ filter (λ (e : Entry). leads_to es e.name to) es
  sources_in_order ks sources =
      let n = length es in
      let same : ks ≡ filter leads_at (range_with_len 0 n) =
      same_rising ks (filter leads_at (range_with_len 0 n)) sources.rising (filter_range_rising leads_at n)
      (λ k. (
        λ c. let s = (sources.members k).0 c in (Contains-filter_range leads_at n k).1 (slice_get_within es k s.0 s.1, agrees k s.0 s.1 ∙ s.2),
        λ c. (sources.members k).1 (source_at k ((Contains-filter_range leads_at n k).0 c)),
      )) in
      found_rows es ks ∙ ap (rows_at es) same ∙ rows_from leads_at leads es es 0 agrees (λ k. ap (slice_get es) (omega arith))
