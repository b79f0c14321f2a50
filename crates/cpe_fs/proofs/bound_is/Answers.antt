use Rattle.cpe_name.proofs.Bindings.{says_text, says_name, says_nothing}
use Rattle.cpe_fs.specs.Grammar.{fs_text}
use Rattle.cpe_fs.specs.Bound.{bound}
use Rattle.cpe_fs.proofs.bound_is.Goals as goal

pub returns : goal.returns
unfolding bound
returns c = record { named = says_text fs_text; found = says_name fs_text; none = says_nothing fs_text }
