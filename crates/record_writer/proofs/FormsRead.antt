-- Lemmas: the written form of a test is read as that test.
use Rattle.std.proofs.Common.{◌≡◌, List, [], ◌∷◌, Bool, true, map, refl, ap, ◌∙◌}
use Rattle.std.specs.Prelude.{Ok, All}
use Rattle.serde_json.specs.Data.{Data, item}
use Rattle.serde_json.specs.View.{items_of as data_of_each}
use Rattle.cpe_rows.specs.cpe_name.Eleven.{Values}
use Rattle.cpe_rows.specs.cpe_name.Names.{IsName}
use Rattle.cpe_rows.specs.FactNames.{fact_names}
use Rattle.cpe_rows.specs.Valid.{is_statement_test}
use Rattle.cpe_rows.specs.declared.test.Operator.{Operator}
use Rattle.cpe_rows.specs.declared.test.CheckKey.{CheckKey}
use Rattle.cpe_rows.specs.declared.test.Test.{Test, Logic, Fact, Check}
use Rattle.cpe_records.specs.declared.format.Format.TheVariants.{Two}
use Rattle.cpe_records.specs.Tests.{test_in}
use Rattle.cpe_records.proofs.WrittenTests as tests
use Rattle.cpe_records.proofs.WrittenTests.{logic_data, fact_data, check_data}
use Rattle.record_writer.specs.NameObject.{name_object}
use Rattle.record_writer.specs.WrittenRecord.{items_of, test_json}
use Rattle.record_writer.proofs.ReadBack.{data_of, data_items}
use Rattle.record_writer.proofs.NamesRead.{ReadsComponents, name_read}
use Rattle.record_writer.proofs.TestForms.{json-logic, json-fact, json-check}

abbrev shown : Test → Data
shown t = data_of (test_json t)

each_shown : (of : List Test) → data_items (items_of (map test_json of)) ≡ data_of_each (map shown of)
each_shown [] = refl
each_shown (t ∷ of) = ap (item (shown t)) (each_shown of)

logics : (o : Operator) (negate : Bool) (of : List Test) → shown (Logic o negate of) ≡ logic_data o negate (data_of_each (map shown of))
logics o negate of = ap data_of (json-logic (Logic o negate of) o negate of refl) ∙ ap (logic_data o negate) (each_shown of)

facts : (w : Values) → shown (Fact w) ≡ fact_data (data_of (name_object w))
facts w = ap data_of (json-fact (Fact w) w refl)

checks : (k : CheckKey) → shown (Check k) ≡ check_data k
checks k = ap data_of (json-check (Check k) k refl)

pub test_read : ReadsComponents → (t : Test) → All IsName (fact_names t) → is_statement_test t ≡ true → test_in Two (data_of (test_json t)) ≡ Ok t
test_read reads = tests.test_read Two shown (λ w. data_of (name_object w)) logics facts checks (λ w name lower. name_read reads w name lower)
