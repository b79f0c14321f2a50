-- Lemmas: what `read_fs` and `unbound` return for a formatted string.
use Rattle.std.proofs.Common.{◌≡◌, ℕ, List, map, Ok, refl, ap, ◌∙◌}
use Rattle.cpe_name.specs.Eleven.{Values}
use Rattle.cpe_name.specs.Names.{named}
use Rattle.cpe_name.proofs.Unbinding.{Unbinds, unbinds}
use Rattle.cpe_fs.specs.Grammar.{Fs, LeavesAt}
use Rattle.cpe_fs.specs.Scanning.{whole_end}
use Rattle.cpe_fs.specs.SpanValues.{fs_value_at}
use Rattle.cpe_fs.specs.Unbound.{fs_name_of, read_fs, unbound}
use Rattle.cpe_fs.proofs.Whole.{whole_scans, whole_taken, whole_ends, components_of}
use Rattle.cpe_fs.proofs.ValueLemmas.{named_back}

name_back : (name : Values) (s : List ℕ) → Fs name s → fs_name_of s ≡ name
name_back name s fs = ap (λ (us : List (List ℕ)). named (map fs_value_at us)) (components_of name s fs) ∙ named_back name fs.0

-- `read_fs` and `unbound` have the properties `Unbinds` of a binding
pub said : Unbinds Fs LeavesAt read_fs unbound
unfolding read_fs unbound
said = unbinds Fs whole_end fs_name_of whole_scans whole_taken whole_ends name_back read_fs unbound (λ s. refl) (λ s. refl)

-- a formatted string is read as its name
pub read_name : (name : Values) (s : List ℕ) → Fs name s → read_fs s ≡ Ok name
read_name = said.read_name

-- a name that is read has this formatted string
pub name_has : (name : Values) (s : List ℕ) → read_fs s ≡ Ok name → Fs name s
name_has = said.name_has
