use Rattle.std.proofs.lemmas.Bool.Decides.{same_from_decides}
use Rattle.cpe_values.specs.Lower.{lower_value}
use Rattle.cpe_values.specs.Equal.{same_value-Decides}
use Rattle.cpe_name.proofs.lower.is_lower_value.Goals as goal

pub returns : goal.returns
returns c = same_from_decides _ _ c.is_lower.ensures (same_value-Decides (lower_value c.args.value.now) c.args.value.now)
