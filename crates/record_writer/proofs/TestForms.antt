-- Lemmas: the written form of a test has no numbers. It nests twice as deep as the test, and two levels more for names
-- and keys.
use Rattle.std.proofs.Common.{◌≡◌, ℕ, zero, suc, ◌+◌, ◌*◌, ◌≤◌, List, [], ◌∷◌, Bool, true, ◌&&◌, map, refl, ap, sym, ◌∙◌, subst, arith}
use Rattle.std.proofs.lemmas.Bool.{and_from}
use Rattle.json.specs.Json as json
use Rattle.cpe_rows.specs.Shape.{largest, depth_of, depth_step}
use Rattle.cpe_rows.specs.cpe_name.Eleven.{Values}
use Rattle.cpe_rows.specs.declared.test.CheckKey.{CheckKey}
use Rattle.cpe_rows.specs.declared.test.Operator.{Operator}
use Rattle.cpe_rows.specs.declared.test.Test.{Test, Logic, Fact, Check}
use Rattle.cpe_rows.specs.declared.test.Test.TheVariants.{rolls-Logic, rolls-Fact, rolls-Check}
use Rattle.cpe_rows.specs.declared.test.Test.TheOpen.{Test-F}
use Rattle.cpe_rows.specs.declared.test.Test.TheViews.{roll-Test}
use Rattle.cpe_rows.specs.declared.test.Test.TheFolds.{fold-roll-Test, ind-Test, map-Test}
use Rattle.record_writer.specs.WrittenRecord.{items_of, test_json_step, test_json}
use Rattle.record_writer.proofs.ReadBack.{fits, fit_items}
use Rattle.record_writer.proofs.NameObjects.{fits-name_object}

abbrev Fits : Test → Type 0
Fits t = (n : ℕ) → 2 * depth_of t + 2 ≤ n → fits n (test_json t) ≡ true

abbrev Shown : Type 0
Shown = (t : Test) × Fits t

abbrev tests : List Shown → List Test
tests es = map (λ (e : Shown). e.0) es

all_fit : (es : List Shown) (n : ℕ) → 2 * largest (map depth_of (tests es)) + 2 ≤ n → fit_items n (items_of (map test_json (tests es))) ≡ true
all_fit [] n h = refl
all_fit (e ∷ es) n h = and_from (fits n (test_json e.0)) _ (e.1 n (omega arith)) (all_fit es n (omega arith))

-- lemma: the JSON of one level of a test, from the JSON of its children
pub json_level : (y : Test-F Test) → test_json (roll-Test y) ≡ test_json_step (map-Test Test json.Json test_json y)
unfolding test_json
json_level y = fold-roll-Test json.Json test_json_step y

-- lemmas: the JSON of each kind of test
pub json-logic : (t : Test) (operator : Operator) (negate : Bool) (of : List Test) → t ≡ Logic operator negate of → test_json t ≡ test_json_step (Test-F.Logic operator negate (map test_json of))
json-logic t operator negate of is = ap test_json (is ∙ sym (rolls-Logic operator negate of)) ∙ json_level (Test-F.Logic operator negate of)

pub json-fact : (t : Test) (name : Values) → t ≡ Fact name → test_json t ≡ test_json_step (Test-F.Fact name)
json-fact t name is = ap test_json (is ∙ sym (rolls-Fact name)) ∙ json_level (Test-F.Fact name)

pub json-check : (t : Test) (k : CheckKey) → t ≡ Check k → test_json t ≡ test_json_step (Test-F.Check k)
json-check t k is = ap test_json (is ∙ sym (rolls-Check k)) ∙ json_level (Test-F.Check k)

pub depth_level : (y : Test-F Test) → depth_of (roll-Test y) ≡ depth_step (map-Test Test ℕ depth_of y)
depth_level y = fold-roll-Test ℕ depth_step y

logic_fits : (n : ℕ) (operator : Operator) (negate : Bool) (es : List Shown) → 2 * suc (largest (map depth_of (tests es))) + 2 ≤ n → fits n (test_json_step (Test-F.Logic operator negate (map test_json (tests es)))) ≡ true
logic_fits zero operator negate es h = absurd (omega arith)
logic_fits (suc zero) operator negate es h = absurd (omega arith)
logic_fits (suc (suc n)) operator negate es h = ap (λ b. b && true) (all_fit es n (omega arith))

fact_fits : (n : ℕ) (name : Values) → 2 ≤ n → fits n (test_json_step (Test-F.Fact name)) ≡ true
fact_fits zero name h = absurd (omega arith)
fact_fits (suc zero) name h = absurd (omega arith)
fact_fits (suc (suc n)) name h = ap (λ b. b && true) (fits-name_object n name)

key_fits : (n : ℕ) (k : CheckKey) → 2 ≤ n → fits n (test_json_step (Test-F.Check k)) ≡ true
key_fits zero k h = absurd (omega arith)
key_fits (suc zero) k h = absurd (omega arith)
key_fits (suc (suc n)) k h = refl

rolled : (y : Test-F Shown) → Fits (roll-Test (map-Test Shown Test (λ e. e.0) y))
rolled (Test-F.Logic operator negate es) n h =
    let y : Test-F Test = Test-F.Logic operator negate (tests es) in
    ap (fits n) (json_level y) ∙ logic_fits n operator negate es (subst (λ d. 2 * d + 2 ≤ n) (depth_level y) h)
rolled (Test-F.Fact name) n h = ap (fits n) (json_level (Test-F.Fact name)) ∙ fact_fits n name (subst (λ d. 2 * d + 2 ≤ n) (depth_level (Test-F.Fact name)) h)
rolled (Test-F.Check k) n h = ap (fits n) (json_level (Test-F.Check k)) ∙ key_fits n k (subst (λ d. 2 * d + 2 ≤ n) (depth_level (Test-F.Check k)) h)

pub fits-test_json : (t : Test) (n : ℕ) → 2 * depth_of t + 2 ≤ n → fits n (test_json t) ≡ true
fits-test_json = ind-Test Fits (λ x y is. subst (λ z. Fits (roll-Test z)) is (rolled y))
