use Rattle.std.proofs.Common.{◌≡◌, List, length, sym, ap, subst, ◌∙◌}
use Rattle.std.specs.Prelude.{Option}
use Rattle.std.proofs.lemmas.List.{length-map}
use Rattle.cpe_rows.specs.declared.entry.Deprecation.{Deprecation}
use Rattle.cpe_rows.specs.declared.entry.Entry.{Entry}
use Rattle.name_index.specs.declared.table.NameId.{NameId}
use Rattle.name_index.specs.Table.{kept_at}
use Rattle.cpe_dictionary.specs.names_in_order.InOrder.{AreInOrder, names_numbered, Roll}
use Rattle.cpe_dictionary.specs.declared.kept.EntryDetails.{EntryDetails}
use Rattle.cpe_dictionary.specs.Given.{each_deprecated}
use Rattle.cpe_dictionary.specs.Kept.{entries_in, entries_of, FitsTable, IsDictionaryGraph, Stored}
use Rattle.cpe_dictionary.proofs.EntryLemmas.{count_is}
use Rattle.cpe_dictionary.proofs.GivenDetails.{given_beside, length_details}
use Rattle.cpe_dictionary.proofs.store.KeptDictionary.deprecate_all.Goals as goal

pub give_all-requires : goal.give_all-requires
give_all-requires c =
    let table = c.args.table.now in
    let i = c.self.inside in
    let back = sym c.self.view_is in
    let ns = names_numbered table i.entries.names.numbers in
    let even = length-map i.entries.names.numbers (λ (x : NameId). (kept_at table x.0).name) ∙ subst (λ (s : Stored). length s.names.numbers ≡ length s.details) back c.requires.fits.even in
    c.requires.even ∙ ap (λ (s : Stored). length (entries_in table s)) back ∙ sym (count_is ns i.entries.details even) ∙ even

pub returns-in-Ok-clause-fits : goal.returns-in-Ok-clause-fits
returns-in-Ok-clause-fits c =
    let table = c.args.table.now in
    let i = c.self.inside in
    let back = sym c.self.view_is in
    let fits = subst (FitsTable table) back c.requires.fits in
    let ns = names_numbered table i.entries.names.numbers in
    let even = length-map i.entries.names.numbers (λ (x : NameId). (kept_at table x.0).name) ∙ fits.even in
    let names = c.give_all.ensures.names in
    let details = c.give_all.ensures.details in
    let left = (λ j. entries_of (names_numbered table (names j).numbers) (details j)) ∙ given_beside ns i.entries.details c.args.deprecations even in
    let given = ap (λ (es : List Entry). each_deprecated es c.as_slice.result.now) (c.with.ensures ∙ ap (λ (s : Stored). entries_in table s) back)
    ∙ ap (λ (os : List (Option Deprecation)). each_deprecated (entries_of ns i.entries.details) os) c.as_slice.ensures in
    record {
      order = subst (λ (r : Roll). AreInOrder table r.held r.numbers) (sym names) fits.order;
      even = ap (λ (r : Roll). length r.numbers) names ∙ fits.even ∙ sym (length_details i.entries.details c.args.deprecations) ∙ sym (ap (λ (ds : List EntryDetails). length ds) details);
      kept = subst (λ (es : List Entry). IsDictionaryGraph es c.in-Ok.graph.nodes) (given ∙ sym left) c.in-Ok.ensures.kept;
    }

pub returns-in-Ok-clause-ok : goal.returns-in-Ok-clause-ok
returns-in-Ok-clause-ok c =
    let table = c.args.table.now in
    let ds = c.args.deprecations in
    let i = c.self.inside in
    let ns = names_numbered table i.entries.names.numbers in
    let even = length-map i.entries.names.numbers (λ (x : NameId). (kept_at table x.0).name) ∙ subst (λ (s : Stored). length s.names.numbers ≡ length s.details) (sym c.self.view_is) c.requires.fits.even in
    (λ j. entries_of (names_numbered table (c.give_all.ensures.names j).numbers) (c.give_all.ensures.details j)) ∙ given_beside ns i.entries.details ds even ∙ ap (λ (s : Stored). each_deprecated (entries_in table s) ds) c.self.view_is
