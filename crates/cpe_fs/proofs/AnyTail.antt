-- Lemmas: if all seven values after the version are ANY, their components are read and written at once.
use Rattle.std.proofs.Common.{◌≡◌, ℕ, List, [], ◌∷◌, drop, Ok, refl}
use Rattle.std.specs.List.{flat_map}
use Rattle.cpe_values.specs.declared.value.Value.TheVariants.{Any}
use Rattle.cpe_name.specs.Eleven.{Values}
use Rattle.cpe_name.specs.Names.{attributes, value_of}
use Rattle.cpe_fs.specs.Grammar.{fs_component}
use Rattle.cpe_fs.specs.Scanning.{text_end, led_end, language_end, field_end, fs_fields_end, any_fs_tail}
use Rattle.cpe_fs.specs.Spans.{behind_field, component_at, components_at, any_components}

-- the scanners of the last seven fields read `any_fs_tail` to its end
pub tail_taken : (s : List ℕ) → s ≡ any_fs_tail → fs_fields_end (drop 4 attributes) s ≡ Ok []
unfolding field_end text_end led_end language_end
tail_taken s is = rw is refl

-- each of the last seven components in `any_fs_tail` is an asterisk
pub tail_components : (s : List ℕ) → s ≡ any_fs_tail → components_at (drop 4 attributes) s ≡ any_components
unfolding component_at behind_field field_end text_end led_end language_end
tail_components s is = rw is refl

-- if each of the last seven values is ANY, `any_fs_tail` is written
pub tail_written : (v : Values)
    → v.update ≡ Any → v.edition ≡ Any → v.language ≡ Any → v.sw_edition ≡ Any → v.target_sw ≡ Any → v.target_hw ≡ Any → v.other ≡ Any
    → flat_map (λ a. 58 ∷ fs_component (value_of v a)) (drop 4 attributes) ≡ any_fs_tail
tail_written v a b c d e f g = rw (a, b, c, d, e, f, g) refl
