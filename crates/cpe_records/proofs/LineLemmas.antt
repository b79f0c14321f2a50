-- Lemmas: the JSON value of a line of bytes.
use Rattle.std.proofs.Common.{◌≡◌, ℕ, List, Bool, true, false, if◌then◌else◌, refl, ap, ◌∙◌}
use Rattle.std.specs.Prelude.{Some, None}
use Rattle.std.specs.Str.{IsUtf8, is_utf8}
use Rattle.std.proofs.lemmas.Str.{IsUtf8-from_is_utf8, is_utf8-from_IsUtf8}
use Rattle.serde_json.specs.Data.{Data}
use Rattle.serde_json.specs.Read.{read}
use Rattle.cpe_records.specs.Line.{json_value_of}

pub line_read : (line : List ℕ) (d : Data) → IsUtf8 line × (read line ≡ Some d) → json_value_of line ≡ Some d
line_read line d h = ap (λ b. if b then read line else None) (is_utf8-from_IsUtf8 line h.0) ∙ h.1

pub line_refused : (line : List ℕ) → (IsUtf8 line → read line ≡ None) → json_value_of line ≡ None
line_refused line h = go (is_utf8 line) (λ e. h (IsUtf8-from_is_utf8 line e)) where
  go : (b : Bool) → (b ≡ true → read line ≡ None) → (if b then read line else None) ≡ None
  go true k = k refl
  go false k = refl
