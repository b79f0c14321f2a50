-- The value that has a component. A component is that of at most one value. Of the public definitions, only `read_fs`
-- and `read_component` use this directly.
use Rattle.std.specs.Prelude.{ℕ, List, if◌then◌else◌}
use Rattle.cpe_values.specs.declared.value.Value.{Value}
use Rattle.cpe_values.specs.declared.value.Value.TheVariants as value
use Rattle.cpe_values.specs.Unspelling.{parts_at}
use Rattle.cpe_fs.specs.Spans.{is_only}

abbrev pub fs_value_at : List ℕ → Value
fs_value_at s = if is_only 42 s then value.Any else (if is_only 45 s then value.Na else value.Text (parts_at s))
