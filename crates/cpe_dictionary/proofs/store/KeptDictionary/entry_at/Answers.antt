use Rattle.std.proofs.Common.{◌∙◌, slice_get, ap}
use Rattle.cpe_dictionary.specs.Kept.{entries_in, Stored}
use Rattle.cpe_dictionary.proofs.store.KeptDictionary.entry_at.Goals as goal

pub returns : goal.returns
returns c = c.entry_at.ensures ∙ ap (λ (s : Stored). slice_get (entries_in c.args.table.now s) c.args.k) c.self.view_is
