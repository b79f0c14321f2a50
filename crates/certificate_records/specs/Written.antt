-- A certificate as JSON, without spaces. The members of each object are sorted by their keys.
use Rattle.std.specs.Prelude.{ℕ, List, [], ◌∷◌, codes, Option, Some, None, option_map}
use Rattle.json.specs.Token.{Token}
use Rattle.json.specs.Json.{Json, null, string, array, object, Members, no_members, member}
use Rattle.json.specs.Tree.{json_tokens}
use Rattle.json.specs.Print.{print}
use Rattle.cpe_rows.specs.cpe_name.Eleven.{Values}
use Rattle.cpe_rows.specs.declared.truth.Truth.{Truth}
use Rattle.cpe_records.specs.Words.{truth_word}
use Rattle.record_writer.specs.Written.{items_by, name_json}
use Rattle.certificate_check.specs.declared.certificate.Certificate.{Certificate}
use Rattle.certificate_check.specs.declared.certificate.Why.{Why}
use Rattle.certificate_check.specs.declared.certificate.Why.TheOpen.{Why-F}
use Rattle.certificate_check.specs.declared.certificate.Why.TheFolds.{fold-Why}

-- ---- members

abbrev pub has_truth : Truth → Members
has_truth truth = member (codes "truth") (string (truth_word truth)) no_members

-- the tokens of the member `truth` and of the object's end
abbrev pub truth_end : Truth → List Token
truth_end truth = Token.key (codes "truth") ∷ Token.string (truth_word truth) ∷ Token.end_object ∷ []

-- names as an array of their formatted strings
abbrev pub has_names : List ℕ → List Values → Members → Members
has_names key names rest = member key (array (items_by name_json names)) rest

-- the JSON of a child's certificate; `null` if there is none
abbrev pub or_null : Option Json → Json
or_null None = null
or_null (Some j) = j

-- ---- the three cases of an object

-- the certificate of a logical test, from what is written for its children
abbrev pub logic_json : Truth → List (Option Json) → Json
logic_json truth of = object (member (codes "of") (array (items_by or_null of)) (has_truth truth))

abbrev pub pair_json : Truth → List Values → List Values → Json
pair_json truth fact item = object (has_names (codes "fact") fact (has_names (codes "item") item (has_truth truth)))

abbrev pub plain_json : Truth → Json
plain_json truth = object (has_truth truth)

abbrev pub written_why_step : Why-F Json → Json
written_why_step (Why-F.Logic truth of) = logic_json truth of
written_why_step (Why-F.Pair truth fact item) = pair_json truth fact item
written_why_step (Why-F.Plain truth) = plain_json truth

unfoldable pub why_json : Why → Json
why_json = fold-Why Json written_why_step

abbrev pub given_json : Option Why → Json
given_json w = or_null (option_map why_json w)

-- ---- the whole certificate

abbrev pub certificate_json : Certificate → Json
certificate_json p = object (
    member (codes "do") (string (codes "proof")) (
    member (codes "id") (string p.id) (
    member (codes "why") (why_json p.why) no_members)))

unfoldable pub certificate_text : Certificate → List ℕ
certificate_text p = print (json_tokens (certificate_json p))
