-- The written form of a statement's certificate is UTF-8.
use Rattle.std.proofs.Common.{List, [], ◌∷◌, Option, Some, None, option_map, map, IsUtf8, refl, ap, sym, ◌∙◌, subst}
use Rattle.std.specs.Prelude.{All}
use Rattle.std.specs.List.{flat_map}
use Rattle.std.proofs.lemmas.List.Elements.{All-head, All-tail}
use Rattle.std.proofs.lemmas.Str.{IsUtf8-from_ascii, IsUtf8-from_is_utf8}
use Rattle.json.proofs.Printed.Utf8.{IsUtf8-are_ascii}
use Rattle.cpe_records.specs.JsonTexts.{WritesTexts, ItemsWriteTexts, MembersWriteTexts, PrintsAreTexts}
use Rattle.cpe_rows.specs.cpe_name.Eleven.{Values}
use Rattle.cpe_rows.specs.cpe_name.Names.{IsName}
use Rattle.cpe_records.specs.Words.{truth_word}
use Rattle.cpe_rows.specs.declared.truth.Truth.{Truth}
use Rattle.cpe_rows.specs.declared.truth.Truth.TheVariants.{True, False, Error, Unknown}
use Rattle.certificate_records.specs.record_writer.Written.{items_by, name_json}
use Rattle.certificate_records.proofs.record_writer.Printed.{IsAscii-fs_text}
use Rattle.certificate_check.specs.declared.certificate.Certificate.{Certificate}
use Rattle.certificate_check.specs.declared.certificate.Why.{Why, roll-Why}
use Rattle.certificate_check.specs.declared.certificate.Why.TheOpen.{Why-F}
use Rattle.certificate_check.specs.declared.certificate.Why.TheVariants.{rolls-Logic, rolls-Pair, rolls-Plain}
use Rattle.certificate_check.specs.declared.certificate.Why.TheFolds.{ind-Why, map-Why}
use Rattle.certificate_records.specs.Whole.{why_names, HasNames}
use Rattle.certificate_records.specs.Written.{has_truth, or_null, why_json, certificate_json, certificate_text}
use Rattle.certificate_records.proofs.Forms.{json-logic, json-pair, json-plain}
use Rattle.certificate_records.proofs.Mapped.{mapped}
use Rattle.certificate_records.proofs.Names.{names_at, names-logic, names-pair, all_parts}
use Rattle.snapshot_bytes.specs.States.{IsString}

name_text : (w : Values) → IsName w → WritesTexts (name_json w)
unfolding name_json
name_text w h = IsUtf8-from_ascii _ (IsAscii-fs_text w h)

names_text : (ws : List Values) → All IsName ws → ItemsWriteTexts (items_by name_json ws)
names_text [] h = tt
names_text (w ∷ ws) h = (name_text w (All-head IsName w ws h), names_text ws (All-tail IsName w ws h))

pub word_text : (truth : Truth) → IsUtf8 (truth_word truth)
word_text True = IsUtf8-are_ascii _ refl
word_text False = IsUtf8-are_ascii _ refl
word_text Error = IsUtf8-are_ascii _ refl
word_text Unknown = IsUtf8-are_ascii _ refl

truth_text : (truth : Truth) → MembersWriteTexts (has_truth truth)
truth_text truth = (IsUtf8-are_ascii _ refl, word_text truth, tt)

abbrev Writes : Why → Type 0
Writes w = HasNames w → WritesTexts (why_json w)

abbrev Shown : Type 0
Shown = (w : Why) × Writes w

abbrev whys : List (Option Shown) → List (Option Why)
whys es = map (option_map (λ (e : Shown). e.0)) es

children_text : (es : List (Option Shown)) → All IsName (flat_map names_at (whys es)) → ItemsWriteTexts (items_by or_null (map (option_map why_json) (whys es)))
children_text [] h = tt
children_text (None ∷ es) h = (tt, children_text es h)
children_text (Some e ∷ es) h =
    let parts = all_parts IsName (why_names e.0) (flat_map names_at (whys es)) h in
    (e.1 parts.0, children_text es parts.1)

logic_text : (truth : Truth) (es : List (Option Shown)) → Writes (roll-Why (Why-F.Logic truth (whys es)))
logic_text truth es h =
    subst WritesTexts (sym (json-logic (roll-Why (Why-F.Logic truth (whys es))) truth (whys es) (rolls-Logic truth (whys es))))
    (IsUtf8-are_ascii _ refl, children_text es (subst (All IsName) (ap why_names (rolls-Logic truth (whys es)) ∙ names-logic truth (whys es)) h), truth_text truth)

rolled : (y : Why-F Shown) → Writes (roll-Why (map-Why Shown Why (λ e. e.0) y))
rolled (Why-F.Logic truth es) = subst (λ y. Writes (roll-Why y)) (sym (mapped (λ (e : Shown). e.0) truth es)) (logic_text truth es)
rolled (Why-F.Pair truth fact item) = λ h.
    let parts = all_parts IsName fact item (subst (All IsName) (ap why_names (rolls-Pair truth fact item) ∙ names-pair truth fact item) h) in
    subst WritesTexts (sym (json-pair (roll-Why (Why-F.Pair truth fact item)) truth fact item (rolls-Pair truth fact item)))
    (IsUtf8-are_ascii _ refl, names_text fact parts.0, (IsUtf8-are_ascii _ refl, names_text item parts.1, truth_text truth))
rolled (Why-F.Plain truth) = λ h. subst WritesTexts (sym (json-plain (roll-Why (Why-F.Plain truth)) truth (rolls-Plain truth))) (truth_text truth)

why_text : (w : Why) → Writes w
why_text = ind-Why Writes (λ x y is. subst (λ z. Writes (roll-Why z)) is (rolled y))

pub written_text : PrintsAreTexts → (p : Certificate) → IsString p.id → HasNames p.why → IsUtf8 (certificate_text p)
unfolding certificate_text
written_text prints p id h =
    prints (certificate_json p)
    (IsUtf8-are_ascii _ refl, IsUtf8-are_ascii _ refl, (IsUtf8-are_ascii _ refl, IsUtf8-from_is_utf8 p.id id, (IsUtf8-are_ascii _ refl, why_text p.why h, tt)))
