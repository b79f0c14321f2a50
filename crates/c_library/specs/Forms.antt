-- A name in another form.
use Rattle.std.specs.Prelude.{ℕ, List, Some, None, Ok, Err}
use Rattle.std.specs.declared.option.Option.{Option}
use Rattle.std.specs.declared.result.Result.{Result}
use Rattle.cpe_fs.specs.Bound.{bound}
use Rattle.cpe_uri.specs.Bound.{bound_uri}
use Rattle.cpe_uri.specs.EitherBinding.{unbound_any}
use Rattle.c_library.specs.declared.forms.Form.{Form}
use Rattle.c_library.specs.declared.forms.Form.TheVariants.{Wfn, Fs, Uri}

-- a refusal without a place gets the place 0
abbrev pub or_zero : Option (List ℕ) → Result (List ℕ) ℕ
or_zero (Some text) = Ok text
or_zero None = Err 0

-- the other form of the name that has this text, or the place of the refusal
abbrev pub form_of : Form → List ℕ → Result (List ℕ) ℕ
form_of Wfn text = unbound_any text
form_of Fs text = or_zero (bound text)
form_of Uri text = or_zero (bound_uri text)
