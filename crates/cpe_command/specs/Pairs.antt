-- What `compare` writes for a line with a source and a target (NIST IR 7696, 6).
use Rattle.std.specs.Prelude.{ℕ, List, ◌∷◌, ◌++◌, Some, None, Result, Ok, Err, codes}
use Rattle.std.specs.declared.option.Option.{Option}
use Rattle.std.specs.List.{flat_map}
use Rattle.std.specs.Fmt.{decimal}
use Rattle.cpe_io.specs.Halves.{halves}
use Rattle.line_session.specs.Session.{Session, printed, stateless}
use Rattle.cpe_fs.specs.cpe_name.Eleven.{Values}
use Rattle.cpe_uri.specs.EitherBinding.{read_any}
use Rattle.cpe_relation.specs.declared.relation.Relation.{Relation}
use Rattle.cpe_relation.specs.declared.relation.Relation.TheVariants.{Disjoint, Equal, Subset, Superset, Undefined}
use Rattle.cpe_relation.specs.NameRelation.{relations, name_relation}
use Rattle.cpe_command.specs.declared.pairs.PairReason.{PairReason}
use Rattle.cpe_command.specs.declared.pairs.PairReason.TheVariants.{Pair, Source, Target}

abbrev pub relation_text : Relation → List ℕ
relation_text Disjoint = codes "DISJOINT"
relation_text Equal = codes "EQUAL"
relation_text Subset = codes "SUBSET"
relation_text Superset = codes "SUPERSET"
relation_text Undefined = codes "UNDEFINED"

-- the words of these relations, each after a space
abbrev pub later_texts : List Relation → List ℕ
later_texts = flat_map (λ r. 32 ∷ relation_text r)

-- the line of two names: their relation, and then the relations of their attributes, in order
abbrev pub relation_line : Values → Values → List ℕ
relation_line source target = relation_text (name_relation source target) ++ later_texts (relations source target) ++ codes "\n"

-- the line of the two names; or the reason that no name has the target's text, with the place of the refusal
abbrev pub to_target : Values → Result Values ℕ → Result (List ℕ) PairReason
to_target source (Ok target) = Ok (relation_line source target)
to_target source (Err place) = Err (Target place)

-- the line of the two names; if no name has the source's text, the reason says so whatever the target is, with the
-- place of the refusal
abbrev pub from_source : Result Values ℕ → Result Values ℕ → Result (List ℕ) PairReason
from_source (Ok source) target = to_target source target
from_source (Err place) target = Err (Source place)

-- the line of the names of both halves; or the reason that the line doesn't have two halves
abbrev pub compared : Option (List ℕ × List ℕ) → Result (List ℕ) PairReason
compared (Some both) = from_source (read_any both.0) (read_any both.1)
compared None = Err Pair

abbrev pub pair_reason_text : PairReason → List ℕ
pair_reason_text Pair = codes "pair"
pair_reason_text (Source place) = codes "source " ++ decimal place
pair_reason_text (Target place) = codes "target " ++ decimal place

abbrev pub pair_session : Session (Unit {0})
pair_session = stateless (λ text. printed pair_reason_text (compared (halves text)))
