use Rattle.std.proofs.Common.{refl}
use Rattle.library_tests.proofs.index.hold.Goals as goal

pub hold-requires-clause-few : goal.hold-requires-clause-few
hold-requires-clause-few c id has = absurd (c.in_default.ensures.none refl id has)
