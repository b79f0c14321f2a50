-- The weight of the rows, which bounds their memory: 32 for each row, and 1 for each byte of its texts. The text of a name is its
-- formatted string.
use Rattle.std.specs.Prelude.{ℕ, ◌+◌, length, map, Option}
use Rattle.std.specs.Option.{option_map_or}
use Rattle.cpe_rows.specs.Weight.{total_weight, name_weight}
use Rattle.advise_ranges.specs.Rows.{AdviceRows}
use Rattle.advise_ranges.specs.declared.advisory.Bound.{Bound}
use Rattle.advise_ranges.specs.declared.advisory.Advisory.{Advisory}

-- the number of bytes of the version, or 0 if there is no bound
abbrev pub bound_bytes : Option Bound → ℕ
bound_bytes bound = option_map_or (λ b. length b.version) bound 0

abbrev pub advisory_weight : Advisory → ℕ
advisory_weight a = name_weight a.name + length a.id + bound_bytes a.start + bound_bytes a.end

abbrev pub advice_weight : AdviceRows → ℕ
advice_weight rows = total_weight (map name_weight rows.items) + total_weight (map advisory_weight rows.advisories)
