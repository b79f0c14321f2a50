-- The relations between an end of a fact and an end of an item that decide the truth of the fact.
use Rattle.std.specs.Prelude.{Bool, not}
use Rattle.cpe_rows.specs.cpe_name.Eleven.{Values}
use Rattle.cpe_relation.specs.NameRelation.{covers}
use Rattle.cpe_relation.specs.Maybe.{maybe}
use Rattle.cpe_rows.specs.Truth.{same_truth}
use Rattle.cpe_rows.specs.declared.truth.Truth.{Truth}
use Rattle.cpe_rows.specs.declared.truth.Truth.TheVariants as truth
use Rattle.certificate_check.specs.declared.relates.Relates.{Relates}
use Rattle.certificate_check.specs.declared.relates.Relates.TheVariants.{Covers, MayCover}

abbrev pub related : Relates → Values → Values → Bool
related Covers = covers
related MayCover = maybe

-- the truth of the fact that an item with this relation shows
abbrev pub truth_of_relates : Relates → Truth
truth_of_relates Covers = truth.True
truth_of_relates MayCover = truth.Unknown

-- a fact of this truth has the relation to no item
abbrev pub is_ruled_out : Relates → Truth → Bool
is_ruled_out Covers t = not (same_truth t truth.True)
is_ruled_out MayCover t = same_truth t truth.False
