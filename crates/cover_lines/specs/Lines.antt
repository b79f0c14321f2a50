-- What a line of a name changes and writes, and what is written at the end of the input.
use Rattle.std.specs.Prelude.{ℕ, List, [], ◌++◌, false, Ok, Err, codes}
use Rattle.std.specs.declared.option.Option.{Option}
use Rattle.std.specs.declared.option.Option.TheVariants.{Some, None}
use Rattle.std.specs.declared.result.Result.{Result}
use Rattle.std.specs.List.{flat_map}
use Rattle.line_session.specs.cpe_io.Lines.{lines}
use Rattle.cpe_rows.specs.cpe_name.Eleven.{Values}
use Rattle.cpe_rows.specs.cpe_name.Lower.{lower_name}
use Rattle.cpe_fs.specs.Grammar.{fs_text}
use Rattle.cpe_uri.specs.EitherBinding.{read_any}
use Rattle.line_session.specs.Session.{Session, Saying, total_cost}
use Rattle.cover_lines.specs.Cover.{cover}
use Rattle.cover_lines.specs.Names.{fault_of, cover_looks, with_cover_name}
use Rattle.cover_lines.specs.declared.fault.NamesWhich.{NamesWhich}
use Rattle.cover_lines.specs.declared.reason.CoverReason.TheVariants as reason
use Rattle.cover_lines.specs.Reasons.{cover_reason_text}

-- the line leaves these names, unless they exceed a limit
abbrev pub within_limits : List Values → Option NamesWhich → Saying (List Values)
within_limits next None = Ok ([], next)
within_limits next (Some which) = Err (cover_reason_text (reason.Full which))

-- the name is added; an accepted line writes nothing
abbrev pub by_added : List Values → Values → Saying (List Values)
by_added names n = within_limits (with_cover_name names n) (fault_of (with_cover_name names n))

-- the name that is read from the line is added in lower case; a line without a name is refused
abbrev pub by_read : List Values → Result Values ℕ → Saying (List Values)
by_read names (Ok n) = by_added names (lower_name n)
by_read names (Err place) = Err (cover_reason_text (reason.Name place))

-- the line of a name: its formatted string
unfoldable pub name_line : Values → List ℕ
name_line n = fs_text n ++ codes "\n"

abbrev pub cover_session : Session (List Values)
cover_session = record {
  says = λ names number text. by_read names (read_any text);
  quiet = false;
  ends = λ names. flat_map name_line (cover names);
  cost = λ names number text. 0;
  end_cost = cover_looks;
}

-- the most steps that the lines of these bytes, and the end of the input, may take
abbrev pub cover_steps : List ℕ → ℕ
cover_steps taken = total_cost cover_session [] (lines taken)
