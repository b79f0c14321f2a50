-- Texts in either binding (NIST IR 7695, 6). A text that begins as a URI is read as a URI, and any other text as a
-- formatted string.
use Rattle.std.specs.Prelude.{◌≡◌, ℕ, Bool, if◌then◌else◌, List, take, Result, Err, codes}
use Rattle.std.specs.Bool.{MatchBool}
use Rattle.std.specs.Result.{result_map_both}
use Rattle.std.specs.Str.{str_eq_ignore_ascii_case}
use Rattle.cpe_name.specs.Eleven.{Values}
use Rattle.cpe_name.specs.Text.{output_text}
use Rattle.cpe_name.specs.Binding.{SaysBy}
use Rattle.cpe_fs.specs.Grammar.{Fs, LeavesAt}
use Rattle.cpe_fs.specs.Unbound.{read_fs}
use Rattle.cpe_fs.specs.declared.FsFault.{FsFault}
use Rattle.cpe_fs.specs.declared.FsFault.TheVariants as fs_fault
use Rattle.cpe_uri.specs.declared.UriFault.{UriFault}
use Rattle.cpe_uri.specs.declared.UriFault.TheVariants as fault
use Rattle.cpe_uri.specs.Grammar.{Uri, LeavesUri}
use Rattle.cpe_uri.specs.Unbound.{read_uri}

-- the first five bytes are `cpe:/`, in any letter case
abbrev pub begins_as_uri : List ℕ → Bool
begins_as_uri s = str_eq_ignore_ascii_case (take 5 s) (codes "cpe:/")

-- the name has this text: as its URI if the text begins as a URI, and otherwise as its formatted string
abbrev pub UriOrFs : Values → List ℕ → Type 0
UriOrFs w s = MatchBool (begins_as_uri s) (Uri w s) (Fs w s)

-- some name has this text in one of the two bindings
abbrev pub IsUriOrFs : List ℕ → Type 0
IsUriOrFs s = (w : Values) × UriOrFs w s

-- no name has this text, and this is the text's place in the grammar of its binding
abbrev pub LeavesUriOrFs : List ℕ → ℕ → Type 0
LeavesUriOrFs s place = MatchBool (begins_as_uri s) (LeavesUri s place) (LeavesAt s place)

-- What a fault says of a text. `At` has the place of a text that no name has. `Memory` means that some name has the
-- text.
abbrev pub RefusesUriOrFs : UriFault → List ℕ → Type 0
RefusesUriOrFs (fault.At place) s = LeavesUriOrFs s place
RefusesUriOrFs fault.Memory s = IsUriOrFs s

-- a fault of a formatted string, as the same fault of a text in either binding
abbrev pub same_fault : FsFault → UriFault
same_fault (fs_fault.At place) = fault.At place
same_fault fs_fault.Memory = fault.Memory

-- some name that has the text `s` has the output text `text`
abbrev pub SaysAny : List ℕ → List ℕ → Type 0
SaysAny s text = SaysBy UriOrFs output_text s text

-- the name that has the text, or the place of the text if no name has it; see the law `read_any_is`
unfoldable pub read_any : List ℕ → Result Values ℕ
read_any s = if begins_as_uri s then read_uri s else read_fs s

-- the output text of the name that has the text, or the place of the text; see the law `unbound_any_is`
unfoldable pub unbound_any : List ℕ → Result (List ℕ) ℕ
unbound_any s = result_map_both output_text (λ (place : ℕ). place) (read_any s)

-- What a fault says of the result of `read_any`. `At` has the same place as this result. `Memory` says nothing of it.
abbrev pub SaysFault : UriFault → Result Values ℕ → Type 0
SaysFault (fault.At place) read = read ≡ Err place
SaysFault fault.Memory read = Unit {0}
