-- How two names are related, as C gets it.
use Rattle.std.specs.Prelude.{◌≡◌, ℕ, Bool, true, false, Ok, Err}
use Rattle.std.specs.declared.result.Result.{Result}
use Rattle.cpe_rows.specs.cpe_name.Eleven.{Values}
use Rattle.cpe_relation.specs.declared.relation.Relation.{Relation}
use Rattle.cpe_relation.specs.declared.relation.Relation.TheVariants.{Disjoint, Equal, Subset, Superset, Undefined}
use Rattle.cpe_relation.specs.Table.{relation}
use Rattle.cpe_relation.specs.NameRelation.{covers, name_relation}
use Rattle.c_library.specs.declared.call_result.CallResult.{CallResult}
use Rattle.c_library.specs.declared.call_result.CallResult.TheVariants.{Done, Refused, TargetRefused, Memory}
use Rattle.c_library.specs.declared.pairs.RelationNumbers.{RelationNumbers}

-- the number of a relation
abbrev pub relation_rank : Relation → ℕ
relation_rank Disjoint = 0
relation_rank Equal = 1
relation_rank Subset = 2
relation_rank Superset = 3
relation_rank Undefined = 4

-- the numbers of the relations of two names
abbrev pub numbered_relations : Values → Values → RelationNumbers
numbered_relations a b = record {
  whole = relation_rank (name_relation a b);
  part = relation_rank (relation a.part b.part);
  vendor = relation_rank (relation a.vendor b.vendor);
  product = relation_rank (relation a.product b.product);
  version = relation_rank (relation a.version b.version);
  update = relation_rank (relation a.update b.update);
  edition = relation_rank (relation a.edition b.edition);
  language = relation_rank (relation a.language b.language);
  sw_edition = relation_rank (relation a.sw_edition b.sw_edition);
  target_sw = relation_rank (relation a.target_sw b.target_sw);
  target_hw = relation_rank (relation a.target_hw b.target_hw);
  other = relation_rank (relation a.other b.other);
}

-- 1 if it is true, and otherwise 0
abbrev pub bit_if : Bool → ℕ
bit_if true = 1
bit_if false = 0

-- The result for two texts. If both have names, it is a result for these names. Otherwise it is the place of the
-- first text that no name has. Memory may run out at any time.
abbrev pub OfBoth : (Values → Values → ℕ → Type 0) → Result Values ℕ → Result Values ℕ → CallResult → Type 0
OfBoth IsSo (Ok a) (Ok b) (Done number) = IsSo a b number
OfBoth IsSo (Err at) b (Refused place) = place ≡ at
OfBoth IsSo (Ok a) (Err at) (TargetRefused place) = place ≡ at
OfBoth IsSo a b Memory = Unit {0}
OfBoth IsSo a b call_result = ⊥

-- the numbers of the relations replace the old numbers; or the old numbers are unchanged, and the result says why
abbrev pub IsRelated : Result Values ℕ → Result Values ℕ → RelationNumbers → RelationNumbers → CallResult → Type 0
IsRelated source target old now (Done number) = OfBoth (λ a b zero. (zero ≡ 0) × (now ≡ numbered_relations a b)) source target (Done number)
IsRelated source target old now call_result = OfBoth (λ a b number. ⊥) source target call_result × (now ≡ old)

-- the number is 1 if the first name covers the second, and otherwise 0
abbrev pub Covers : Result Values ℕ → Result Values ℕ → CallResult → Type 0
Covers = OfBoth (λ a b number. number ≡ bit_if (covers a b))
