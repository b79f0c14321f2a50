-- Whether a name may cover a target that is known only in part, by the relations of the attributes (NIST IR 7696, 6).
use Rattle.std.specs.Prelude.{Bool, true, false, ◌&&◌, ◌||◌}
use Rattle.std.specs.List.{list_all, list_any}
use Rattle.cpe_values.specs.declared.value.Value.{Value}
use Rattle.cpe_values.specs.Lower.{has_specials}
use Rattle.cpe_name.specs.Eleven.{Values}
use Rattle.cpe_relation.specs.declared.relation.Relation.{Relation}
use Rattle.cpe_relation.specs.NameRelation.{in_row, relations}
use Rattle.cpe_relation.specs.Near.{near}

abbrev pub is_undefined : Relation → Bool
is_undefined r = in_row false false false false true r

-- The relation is SUPERSET, EQUAL or UNDEFINED.
abbrev pub may_be_above : Relation → Bool
may_be_above r = in_row false true false true true r

-- Each attribute is SUPERSET, EQUAL or UNDEFINED, and at least one is UNDEFINED.
unfoldable pub maybe : Values → Values → Bool
maybe a b = list_all may_be_above (relations a b) && list_any is_undefined (relations a b)

-- A source product meets a target product: the target has a special, or the source is near the target.
abbrev pub values_meet : Value → Value → Bool
values_meet p t = has_specials t || near p t
