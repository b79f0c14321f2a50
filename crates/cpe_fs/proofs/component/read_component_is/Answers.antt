use Rattle.std.proofs.Common.{refl}
use Rattle.cpe_fs.proofs.Components.{read_value, read_has, read_none}
use Rattle.cpe_fs.proofs.component.read_component_is.Goals as goal

pub returns : goal.returns
returns c = record { named = read_value; found = read_has; none = read_none; bound = λ value good. (good, refl) }
