-- Lemmas: the names of a test that is read are well-formed, and its keys of checks are UTF-8.
use Rattle.std.proofs.Common.{◌≡◌, ℕ, List, [], ◌∷◌, ◌++◌, Bool, codes, sym, ap, ◌∙◌, subst}
use Rattle.std.specs.Prelude.{IfOk}
use Rattle.std.specs.List.{AllByRecursion, flat_map}
use Rattle.std.proofs.lemmas.List.Folds.{flat_map-map}
use Rattle.serde_json.specs.Data.{Data}
use Rattle.cpe_records.specs.JsonTexts.{HasTexts, HaveTexts, MembersHaveTexts}
use Rattle.cpe_rows.specs.cpe_name.Eleven.{Values}
use Rattle.cpe_rows.specs.cpe_name.Names.{IsName}
use Rattle.cpe_rows.specs.FactNames.{fact_names, fact_names_step}
use Rattle.cpe_rows.specs.declared.test.CheckKey.{CheckKey}
use Rattle.cpe_rows.specs.declared.test.Operator.{Operator}
use Rattle.cpe_rows.specs.declared.test.Test as test
use Rattle.cpe_rows.specs.declared.test.Test.TheOpen.{Test-F}
use Rattle.cpe_rows.specs.declared.test.Test.TheFolds.{fold-roll-Test}
use Rattle.cpe_rows.specs.declared.test.Test.TheVariants as test_rolls
use Rattle.cpe_rows.proofs.TestNames.{names-logic}
use Rattle.cpe_records.specs.Forms.{text_in}
use Rattle.cpe_records.specs.Tests.{part_in, key_in, test_at}
use Rattle.cpe_records.specs.declared.format.Format.{Format}
use Rattle.cpe_records.specs.declared.member.Member.TheVariants as part
use Rattle.cpe_records.proofs.BuiltTests.{test_built}
use Rattle.cpe_records.proofs.ReadLemmas.{then_if, required_if}
use Rattle.snapshot_bytes.specs.States.{IsString, IsTextKey, keys_of, stored_keys_step}
use Rattle.cpe_records.specs.Read.{IsReadTest}
use Rattle.cpe_records.proofs.Strings.{text_in_is}

-- ---- the parts of a test

all_joined : {A : Type 0} (P : A → Type 0) (xs ys : List A) → AllByRecursion P xs → AllByRecursion P ys → AllByRecursion P (xs ++ ys)
all_joined P [] ys h k = k
all_joined P (x ∷ xs) ys h k = (h.0, all_joined P xs ys h.1 k)

pub keys-logic : (o : Operator) (b : Bool) (of : List test.Test) → keys_of (test.Logic o b of) ≡ flat_map keys_of of
keys-logic o b of = ap keys_of (sym (test_rolls.rolls-Logic o b of)) ∙ (fold-roll-Test (List CheckKey) stored_keys_step (Test-F.Logic o b of) ∙ flat_map-map (λ keys. keys) keys_of of)

names-fact : (w : Values) → fact_names (test.Fact w) ≡ w ∷ []
names-fact w = ap fact_names (sym (test_rolls.rolls-Fact w)) ∙ fold-roll-Test (List Values) fact_names_step (Test-F.Fact w)

keys-fact : (w : Values) → keys_of (test.Fact w) ≡ []
keys-fact w = ap keys_of (sym (test_rolls.rolls-Fact w)) ∙ fold-roll-Test (List CheckKey) stored_keys_step (Test-F.Fact w)

names-check : (key : CheckKey) → fact_names (test.Check key) ≡ []
names-check key = ap fact_names (sym (test_rolls.rolls-Check key)) ∙ fold-roll-Test (List Values) fact_names_step (Test-F.Check key)

keys-check : (key : CheckKey) → keys_of (test.Check key) ≡ key ∷ []
keys-check key = ap keys_of (sym (test_rolls.rolls-Check key)) ∙ fold-roll-Test (List CheckKey) stored_keys_step (Test-F.Check key)

test_names : (ts : List test.Test) → AllByRecursion IsReadTest ts → AllByRecursion IsName (flat_map fact_names ts)
test_names [] h = tt
test_names (t ∷ ts) h = all_joined IsName (fact_names t) (flat_map fact_names ts) h.0.names (test_names ts h.1)

test_keys : (ts : List test.Test) → AllByRecursion IsReadTest ts → AllByRecursion IsTextKey (flat_map keys_of ts)
test_keys [] h = tt
test_keys (t ∷ ts) h = all_joined IsTextKey (keys_of t) (flat_map keys_of ts) h.0.keys (test_keys ts h.1)

logic_test : (o : Operator) (b : Bool) (ts : List test.Test) → AllByRecursion IsReadTest ts → IsReadTest (test.Logic o b ts)
logic_test o b ts h = record {
  names = subst (AllByRecursion IsName) (sym (names-logic o b ts)) (test_names ts h);
  keys = subst (AllByRecursion IsTextKey) (sym (keys-logic o b ts)) (test_keys ts h);
}

fact_test : (w : Values) → IsName w → IsReadTest (test.Fact w)
fact_test w h = record { names = subst (AllByRecursion IsName) (sym (names-fact w)) (h, tt); keys = subst (AllByRecursion IsTextKey) (sym (keys-fact w)) tt }

check_test : (key : CheckKey) → IsTextKey key → IsReadTest (test.Check key)
check_test key h = record { names = subst (AllByRecursion IsName) (sym (names-check key)) tt; keys = subst (AllByRecursion IsTextKey) (sym (keys-check key)) (h, tt) }

-- ---- how a test is read

part_is : (key : List ℕ) (d : Data) → HasTexts d → IfOk (part_in key d) IsString
part_is key d h = required_if IsString part.Test (text_in key d) (text_in_is key d h)

key_is : (d : Data) → HasTexts d → IfOk (key_in d) IsTextKey
unfolding key_in
key_is d h =
    then_if IsString IsTextKey (part_in (codes "system") d) _ (part_is (codes "system") d h)
    (λ system s. then_if IsString IsTextKey (part_in (codes "href") d) _ (part_is (codes "href") d h)
    (λ href r. then_if IsString IsTextKey (part_in (codes "id") d) _ (part_is (codes "id") d h) (λ id i. record { system = s; href = r; id = i })))

pub test_is : (f : Format) (d : Data) → HasTexts d → IfOk (test_at f d) IsReadTest
test_is f d h =
    test_built HasTexts HaveTexts MembersHaveTexts (λ ds k. k) (λ ms k. k) (λ e ds k. k) (λ key e ms k. k) IsTextKey key_is IsReadTest logic_test fact_test check_test f d h
