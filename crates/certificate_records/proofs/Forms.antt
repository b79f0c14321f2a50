-- Lemmas: the written form of a certificate has no numbers. It nests twice as deep as its logical tests, and two levels
-- more for its names.
use Rattle.std.proofs.Common.{◌≡◌, ℕ, zero, suc, ◌+◌, ◌*◌, ◌≤◌, List, [], ◌∷◌, true, ◌&&◌, Option, Some, None, option_map, map, refl, ap, sym, ◌∙◌, subst, arith, nat_le}
use Rattle.std.proofs.lemmas.Bool.{and_from}
use Rattle.std.proofs.lemmas.Bool.Decides.{nat_tests}
use Rattle.json.specs.Json as json
use Rattle.serde_json.specs.Read.{max_depth}
use Rattle.cpe_rows.specs.cpe_name.Eleven.{Values}
use Rattle.cpe_rows.specs.Shape.{largest}
use Rattle.cpe_rows.specs.declared.truth.Truth.{Truth}
use Rattle.record_writer.specs.Written.{items_by, name_json}
use Rattle.record_writer.proofs.ReadBack.{fits, fit_items}
use Rattle.certificate_check.specs.declared.certificate.Certificate.{Certificate}
use Rattle.certificate_check.specs.declared.certificate.Why.{Why, Logic, Pair, Plain, roll-Why}
use Rattle.certificate_check.specs.declared.certificate.Why.TheOpen.{Why-F}
use Rattle.certificate_check.specs.declared.certificate.Why.TheVariants.{rolls-Logic, rolls-Pair, rolls-Plain}
use Rattle.certificate_check.specs.declared.certificate.Why.TheFolds.{fold-roll-Why, ind-Why, map-Why}
use Rattle.certificate_records.specs.Levels.{given_levels, levels, levels_step}
use Rattle.certificate_records.specs.Written.{or_null, logic_json, pair_json, plain_json, written_why_step, why_json, certificate_json}
use Rattle.certificate_records.proofs.Mapped.{mapped}

-- lemma: the JSON of one level of a certificate, from the JSON of its children
why_level : (y : Why-F Why) → why_json (roll-Why y) ≡ written_why_step (map-Why Why json.Json why_json y)
unfolding why_json
why_level y = fold-roll-Why json.Json written_why_step y

pub json-logic : (w : Why) (truth : Truth) (of : List (Option Why)) → w ≡ Logic truth of → why_json w ≡ logic_json truth (map (option_map why_json) of)
json-logic w truth of is = ap why_json (is ∙ sym (rolls-Logic truth of)) ∙ why_level (Why-F.Logic truth of) ∙ ap written_why_step (mapped why_json truth of)

pub json-pair : (w : Why) (truth : Truth) (fact item : List Values) → w ≡ Pair truth fact item → why_json w ≡ pair_json truth fact item
json-pair w truth fact item is = ap why_json (is ∙ sym (rolls-Pair truth fact item)) ∙ why_level (Why-F.Pair truth fact item)

pub json-plain : (w : Why) (truth : Truth) → w ≡ Plain truth → why_json w ≡ plain_json truth
json-plain w truth is = ap why_json (is ∙ sym (rolls-Plain truth)) ∙ why_level (Why-F.Plain truth)

-- ---- depth

abbrev Fits : Why → Type 0
Fits w = (n : ℕ) → 2 * levels w + 2 ≤ n → fits n (why_json w) ≡ true

abbrev Shown : Type 0
Shown = (w : Why) × Fits w

abbrev whys : List (Option Shown) → List (Option Why)
whys es = map (option_map (λ (e : Shown). e.0)) es

names_fit : (n : ℕ) (ws : List Values) → fit_items n (items_by name_json ws) ≡ true
unfolding name_json
names_fit n [] = refl
names_fit n (w ∷ ws) = names_fit n ws

all_fit : (es : List (Option Shown)) (n : ℕ) → 2 * largest (map given_levels (map (option_map levels) (whys es))) + 2 ≤ n
    → fit_items n (items_by or_null (map (option_map why_json) (whys es))) ≡ true
all_fit [] n h = refl
all_fit (None ∷ es) n h = all_fit es n (omega arith)
all_fit (Some e ∷ es) n h = and_from (fits n (why_json e.0)) _ (e.1 n (omega arith)) (all_fit es n (omega arith))

logic_fits : (n : ℕ) (truth : Truth) (es : List (Option Shown)) → 2 * suc (largest (map given_levels (map (option_map levels) (whys es)))) + 2 ≤ n
    → fits n (logic_json truth (map (option_map why_json) (whys es))) ≡ true
logic_fits zero truth es h = absurd (omega arith)
logic_fits (suc zero) truth es h = absurd (omega arith)
logic_fits (suc (suc n)) truth es h = ap (λ b. b && true) (all_fit es n (omega arith))

pair_fits : (n : ℕ) (truth : Truth) (fact item : List Values) → 2 ≤ n → fits n (pair_json truth fact item) ≡ true
pair_fits zero truth fact item h = absurd (omega arith)
pair_fits (suc zero) truth fact item h = absurd (omega arith)
pair_fits (suc (suc n)) truth fact item h = and_from _ _ (names_fit n fact) (and_from _ _ (names_fit n item) refl)

plain_fits : (n : ℕ) (truth : Truth) → 2 ≤ n → fits n (plain_json truth) ≡ true
plain_fits zero truth h = absurd (omega arith)
plain_fits (suc n) truth h = refl

levels_level : (y : Why-F Why) → levels (roll-Why y) ≡ levels_step (map-Why Why ℕ levels y)
levels_level y = fold-roll-Why ℕ levels_step y

logic_fitted : (truth : Truth) (es : List (Option Shown)) → Fits (roll-Why (Why-F.Logic truth (whys es)))
logic_fitted truth es n h =
    let y : Why-F Why = Why-F.Logic truth (whys es) in
    ap (fits n) (why_level y ∙ ap written_why_step (mapped why_json truth (whys es)))
    ∙ logic_fits n truth es (subst (λ d. 2 * d + 2 ≤ n) (levels_level y ∙ ap levels_step (mapped levels truth (whys es))) h)

rolled : (y : Why-F Shown) → Fits (roll-Why (map-Why Shown Why (λ e. e.0) y))
rolled (Why-F.Logic truth es) = subst (λ y. Fits (roll-Why y)) (sym (mapped (λ (e : Shown). e.0) truth es)) (logic_fitted truth es)
rolled (Why-F.Pair truth fact item) = λ n h.
    let y : Why-F Why = Why-F.Pair truth fact item in
    ap (fits n) (why_level y) ∙ pair_fits n truth fact item (subst (λ d. 2 * d + 2 ≤ n) (levels_level y) h)
rolled (Why-F.Plain truth) = λ n h.
    let y : Why-F Why = Why-F.Plain truth in
    ap (fits n) (why_level y) ∙ plain_fits n truth (subst (λ d. 2 * d + 2 ≤ n) (levels_level y) h)

fits-why_json : (w : Why) → Fits w
fits-why_json = ind-Why Fits (λ x y is. subst (λ z. Fits (roll-Why z)) is (rolled y))

why_fits : (w : Why) → nat_le (levels w) 32 ≡ true → (fits 126 (why_json w) && true) ≡ true
why_fits w h = and_from (fits 126 (why_json w)) true (fits-why_json w 126 (grind (arith, nat_tests))) refl

pub certificate_fits : (p : Certificate) → nat_le (levels p.why) 32 ≡ true → fits max_depth (certificate_json p) ≡ true
certificate_fits p h = why_fits p.why h
