use Rattle.std.proofs.Common.{◌≡◌, Some, ap, ◌∙◌}
use Rattle.cpe_dictionary.specs.Kept.{entries_in, names_of_entries, rewritten, written}
use Rattle.name_registry.specs.Registered.{Registered}
use Rattle.name_registry.proofs.FitLemmas.{others_same}
use Rattle.name_registry.proofs.HeldLemmas.{names_written}
use Rattle.name_registry.proofs.registry.Registry.change.Goals as goal

pub returns : goal.returns
returns c =
    let i = c.self.inside in
    let t = i.table in
    let same : names_of_entries (entries_in t c.commit.new.self) ≡ names_of_entries (entries_in t i.dictionary) =
    ap names_of_entries c.commit.ensures.entries ∙ names_written c.args.deprecation (Some c.args.note) c.args.plan.now.number (entries_in t i.dictionary) in
    record {
      table = ap (λ (x : Registered). x.table) c.self.view_is;
      items = ap (λ (x : Registered). x.items) c.self.view_is;
      entries = c.commit.ensures.entries ∙ ap (λ (x : Registered). written (rewritten c.args.deprecation (Some c.args.note)) c.args.plan.now.number x.entries) c.self.view_is;
      others = others_same t i.dictionary c.commit.new.self i.items c.self.view_is same;
    }
