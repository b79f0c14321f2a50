-- Valid edits and questions: their names are in lower case, and their ids and versions have their form.
use Rattle.std.specs.Prelude.{Bool, true, ◌&&◌, Option}
use Rattle.std.specs.Option.{option_map_or}
use Rattle.cpe_rows.specs.Names.{is_lower}
use Rattle.cpe_rows.specs.Valid.{is_id}
use Rattle.advise_ranges.specs.declared.advisory.Bound.{Bound}
use Rattle.advise_ranges.specs.declared.advisory.Advisory.{Advisory}
use Rattle.advise_ranges.specs.declared.edit.AdviceEdit.{AdviceEdit}
use Rattle.advise_ranges.specs.declared.edit.AdviceEdit.TheVariants as edit
use Rattle.advise_ranges.specs.declared.edit.AdviceQuery.{AdviceQuery}
use Rattle.advise_ranges.specs.declared.edit.AdviceQuery.TheVariants as query
use Rattle.advise_ranges.specs.declared.read.Advice.{Advice}
use Rattle.advise_ranges.specs.declared.read.Advice.TheVariants as TheAdvice

-- the version of the bound has the form of an id
abbrev pub is_bound : Option Bound → Bool
is_bound bound = option_map_or (λ b. is_id b.version) bound true

abbrev pub is_valid_advisory : Advisory → Bool
is_valid_advisory a = is_id a.id && is_lower a.name && is_bound a.start && is_bound a.end

abbrev pub is_valid_advice_edit : AdviceEdit → Bool
is_valid_advice_edit (edit.Item n) = is_lower n
is_valid_advice_edit (edit.DropItem n) = is_lower n
is_valid_advice_edit (edit.Put a) = is_valid_advisory a
is_valid_advice_edit (edit.Drop id) = is_id id

abbrev pub is_valid_advice_query : AdviceQuery → Bool
is_valid_advice_query (query.Affected id) = is_id id
is_valid_advice_query (query.Advisories n) = is_lower n

abbrev pub is_valid_advice : Advice → Bool
is_valid_advice (TheAdvice.Edit e) = is_valid_advice_edit e
is_valid_advice (TheAdvice.Query q) = is_valid_advice_query q
