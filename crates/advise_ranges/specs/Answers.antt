-- The answers to questions, and how often an answer looks at an item's name, at most.
use Rattle.std.specs.Prelude.{ℕ, List, map, filter, option_map}
use Rattle.std.specs.Option.{option_map_or}
use Rattle.cpe_rows.specs.cpe_name.Eleven.{Values}
use Rattle.names_in_order.specs.Places.{near_count}
use Rattle.advise_ranges.specs.Affected.{affects}
use Rattle.advise_ranges.specs.Rows.{AdviceRows, advisory_of}
use Rattle.advise_ranges.specs.declared.advisory.Advisory.{Advisory}
use Rattle.advise_ranges.specs.declared.edit.AdviceQuery.{AdviceQuery}
use Rattle.advise_ranges.specs.declared.edit.AdviceQuery.TheVariants as query
use Rattle.advise_ranges.specs.declared.edit.AdviceReply.{AdviceReply}
use Rattle.advise_ranges.specs.declared.edit.AdviceReply.TheVariants as reply

-- the ids of the advisories that affect an item of this name
abbrev pub ids_affecting : Values → List Advisory → List (List ℕ)
ids_affecting n advisories = map (λ (a : Advisory). a.id) (filter (λ a. affects a n) advisories)

abbrev pub advice_answer : AdviceRows → AdviceQuery → AdviceReply
advice_answer rows (query.Affected id) = reply.Affected id (option_map (λ a. filter (affects a) rows.items) (advisory_of rows id))
advice_answer rows (query.Advisories n) = reply.Advisories n (ids_affecting n rows.advisories)

-- For an advisory: the number of items to whose product the product of its name is near. For a name: none, because its advisories are
-- found without a look at an item.
abbrev pub advice_looks : AdviceRows → AdviceQuery → ℕ
advice_looks rows (query.Affected id) = option_map_or (λ a. near_count a.name rows.items) (advisory_of rows id) 0
advice_looks rows (query.Advisories n) = 0
