use Rattle.std.proofs.Common.{◌≡◌, ℕ, List, Option, None, Some, position, slice_get, refl, sym, ap, ◌∙◌, arith}
use Rattle.std.specs.Prelude.{option_and_then}
use Rattle.std.specs.Option.{option_map_or}
use Rattle.cpe_rows.specs.cpe_name.Eleven.{Values}
use Rattle.cpe_rows.specs.Rows.{is_named}
use Rattle.cpe_rows.specs.Weight.{deprecation_weight}
use Rattle.cpe_rows.specs.declared.entry.Deprecation.{Deprecation}
use Rattle.cpe_rows.specs.declared.entry.Entry.{Entry}
use Rattle.row_weight.specs.Gain.{deprecated_weight, weight_of_first}
use Rattle.verdicts.specs.name_registry.Registered.{name_in}
use Rattle.cpe_dictionary.proofs.DictionaryLemmas.{no_entry}
use Rattle.cpe_dictionary.proofs.EntryLemmas.{not_found}
use Rattle.cpe_dictionary.proofs.PlanLemmas.{entry_found}
use Rattle.engine_edits.proofs.PartsLemmas.{counted}
use Rattle.engine_edits.proofs.parts.EngineParts.deprecation_weight.Goals as goal

of_entry : (o : Option Entry) → option_map_or deprecated_weight o 0 ≡ option_map_or deprecation_weight (option_and_then (λ (e : Entry). e.deprecation) o) 0
of_entry None = refl
of_entry (Some e) = refl

-- the weight of the deprecation, by the number of the entry
by_number : (es : List Entry) (n : Values) (k : ℕ) → position (is_named n) es ≡ Some k → weight_of_first deprecated_weight (is_named n) es ≡ option_map_or deprecation_weight (option_and_then (λ (e : Entry). e.deprecation) (slice_get es k)) 0
by_number es n k place = ap (λ (o : Option Entry). option_map_or deprecated_weight o 0) (entry_found es n k place) ∙ of_entry (slice_get es k)

pub returns-in_default : goal.returns-in_default
returns-in_default c =
    let es = c.args.self.now.registry.entries in
    let n = name_in c.args.self.now.registry.table c.args.id in
    sym (ap (λ (o : Option Entry). option_map_or deprecated_weight o 0) (not_found (is_named n) es (no_entry es n (sym c.entry_number.ensures ∙ c.in_default.is))))

pub returns-in-Some-deprecation_at : goal.returns-in-Some-deprecation_at
returns-in-Some-deprecation_at c =
    let es = c.args.self.now.registry.entries in
    let n = name_in c.args.self.now.registry.table c.args.id in
    let k = c.in-Some.number in
    let d = c.in-Some-deprecation_at.deprecation.now in
    let at = c.in-Some-deprecation_at.ensures ∙ ap (λ (xs : List Entry). option_and_then (λ (e : Entry). e.deprecation) (slice_get xs k)) c.dictionary-dictionary.ensures in
    let is = by_number es n k (sym c.entry_number.ensures ∙ c.in-Some.is) ∙ ap (λ (o : Option Deprecation). option_map_or deprecation_weight o 0) (sym at) in
    c.with_deprecation.ensures ∙ counted (deprecation_weight d) (omega (arith, is, c.requires.few)) ∙ sym is

pub returns-in-None : goal.returns-in-None
returns-in-None c =
    let es = c.args.self.now.registry.entries in
    let n = name_in c.args.self.now.registry.table c.args.id in
    let k = c.in-Some.number in
    let at = c.in-None.ensures ∙ ap (λ (xs : List Entry). option_and_then (λ (e : Entry). e.deprecation) (slice_get xs k)) c.dictionary-dictionary.ensures in
    sym (by_number es n k (sym c.entry_number.ensures ∙ c.in-Some.is) ∙ ap (λ (o : Option Deprecation). option_map_or deprecation_weight o 0) (sym at))
