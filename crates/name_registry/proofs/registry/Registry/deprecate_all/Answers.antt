use Rattle.std.proofs.Common.{◌≡◌, ap, subst, ◌∙◌}
use Rattle.std.specs.Prelude.{IfErr, OnOk}
use Rattle.cpe_rows.specs.Lawful.{IsDictionary}
use Rattle.cpe_dictionary.specs.deprecation_graph.declared.fill_fault.FillFault.{FillFault}
use Rattle.cpe_dictionary.specs.deprecation_graph.declared.fill_fault.FillFault.TheVariants as fault
use Rattle.cpe_dictionary.specs.Kept.{entries_in, names_of_entries, Stored}
use Rattle.cpe_dictionary.specs.Given.{each_deprecated}
use Rattle.cpe_dictionary.proofs.GivenLemmas.{names_given}
use Rattle.name_registry.specs.Registered.{Registered, registered}
use Rattle.name_registry.proofs.FitLemmas.{others_same, either, on_err}
use Rattle.name_registry.proofs.registry.Registry.deprecate_all.Goals as goal

pub returns : goal.returns
returns c =
    let i = c.self.inside in
    let t = i.table in
    let same : names_of_entries (entries_in t c.deprecate_all.new.self) ≡ names_of_entries (entries_in t i.dictionary) =
    either c.deprecate_all.result (λ ok. ap names_of_entries ok ∙ names_given (entries_in t i.dictionary) c.args.deprecations) (λ err. ap (λ (s : Stored). names_of_entries (entries_in t s)) err) c.deprecate_all.ensures.ok c.deprecate_all.ensures.err in
    record {
      table = ap (λ (x : Registered). x.table) c.self.view_is;
      items = ap (λ (x : Registered). x.items) c.self.view_is;
      ok = subst (λ (x : Registered). OnOk c.deprecate_all.result (entries_in t c.deprecate_all.new.self ≡ each_deprecated x.entries c.args.deprecations)) c.self.view_is c.deprecate_all.ensures.ok;
      others = others_same t i.dictionary c.deprecate_all.new.self i.items c.self.view_is same;
      unlawful = subst (λ (x : Registered). IfErr c.deprecate_all.result (λ (f : FillFault). f ≡ fault.Unlawful → IsDictionary (each_deprecated x.entries c.args.deprecations) → ⊥)) c.self.view_is c.deprecate_all.ensures.unlawful;
      err = on_err c.deprecate_all.result (λ e. ap (λ (s : Stored). registered t s i.items) e ∙ c.self.view_is) c.deprecate_all.ensures.err;
    }
