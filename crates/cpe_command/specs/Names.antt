-- What `unbind` and `bind` write for a line with one name (NIST IR 7695, 6).
use Rattle.std.specs.Prelude.{ℕ, List, ◌++◌, Some, None, Ok, Err, codes}
use Rattle.std.specs.declared.option.Option.{Option}
use Rattle.std.specs.declared.result.Result.{Result}
use Rattle.std.specs.Fmt.{decimal}
use Rattle.cpe_fs.specs.Bound.{bound}
use Rattle.cpe_uri.specs.Bound.{bound_uri}
use Rattle.cpe_uri.specs.EitherBinding.{unbound_any}
use Rattle.line_session.specs.Session.{Session, printed, stateless}
use Rattle.cpe_command.specs.declared.names.NameCommand.{NameCommand}
use Rattle.cpe_command.specs.declared.names.NameCommand.TheVariants.{Unbind, BindFs, BindUri}
use Rattle.cpe_command.specs.declared.names.NameReason.{NameReason}
use Rattle.cpe_command.specs.declared.names.NameReason.TheVariants.{Wfn, Name}

-- the text; or the reason that no name has the line's text, with the place of the refusal
abbrev pub or_place : Result (List ℕ) ℕ → Result (List ℕ) NameReason
or_place (Ok text) = Ok text
or_place (Err place) = Err (Name place)

-- the text; or the reason that no well-formed name has the line's text
abbrev pub or_wfn : Option (List ℕ) → Result (List ℕ) NameReason
or_wfn (Some text) = Ok text
or_wfn None = Err Wfn

-- the other form of the name that has this text
abbrev pub other_form : NameCommand → List ℕ → Result (List ℕ) NameReason
other_form Unbind text = or_place (unbound_any text)
other_form BindFs text = or_wfn (bound text)
other_form BindUri text = or_wfn (bound_uri text)

-- the text as a line; or the refusal
abbrev pub name_line : {Why : Type 0} → Result (List ℕ) Why → Result (List ℕ) Why
name_line (Ok text) = Ok (text ++ codes "\n")
name_line (Err why) = Err why

abbrev pub name_reason_text : NameReason → List ℕ
name_reason_text Wfn = codes "wfn"
name_reason_text (Name place) = codes "name " ++ decimal place

abbrev pub name_session : NameCommand → Session (Unit {0})
name_session command = stateless (λ text. printed name_reason_text (name_line (other_form command text)))
