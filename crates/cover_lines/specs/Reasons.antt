-- The reasons why a line is refused, as they are written. Memory that runs out is no reason to refuse a line.
use Rattle.std.specs.Prelude.{ℕ, List, ◌++◌, codes}
use Rattle.std.specs.Fmt.{decimal}
use Rattle.cover_lines.specs.declared.fault.NamesWhich.{NamesWhich}
use Rattle.cover_lines.specs.declared.fault.NamesWhich.TheVariants.{Names, Weight}
use Rattle.cover_lines.specs.declared.reason.CoverReason.{CoverReason}
use Rattle.cover_lines.specs.declared.reason.CoverReason.TheVariants.{Name, Full}

abbrev pub names_which_word : NamesWhich → List ℕ
names_which_word Names = codes "names"
names_which_word Weight = codes "weight"

abbrev pub cover_reason_text : CoverReason → List ℕ
cover_reason_text (Name place) = codes "name " ++ decimal place
cover_reason_text (Full which) = codes "full " ++ names_which_word which
