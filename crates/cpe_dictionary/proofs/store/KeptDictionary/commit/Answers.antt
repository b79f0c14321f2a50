use Rattle.std.proofs.Common.{◌≡◌, ◌<◌, List, length, sym, ap, subst, ◌∙◌}
use Rattle.std.proofs.lemmas.List.{length-map}
use Rattle.cpe_rows.specs.Lawful.{IsDictionary}
use Rattle.deprecation_graph.specs.Graph.{changed_nodes}
use Rattle.name_index.specs.declared.table.NameId.{NameId}
use Rattle.name_index.specs.Table.{kept_at}
use Rattle.cpe_dictionary.specs.names_in_order.InOrder.{AreInOrder, names_numbered, Roll}
use Rattle.cpe_dictionary.specs.declared.kept.EntryDetails.{EntryDetails}
use Rattle.cpe_dictionary.specs.Numbers.{nodes_of_entries}
use Rattle.cpe_dictionary.specs.Kept.{entries_in, entries_of, FitsTable, rewritten, Stored, written}
use Rattle.cpe_dictionary.specs.Plans.{numbered_successors}
use Rattle.cpe_dictionary.specs.Room.{MayChange}
use Rattle.cpe_dictionary.proofs.DictionaryLemmas.{kept_change}
use Rattle.cpe_dictionary.proofs.EntryLemmas.{length_written, written_beside}
use Rattle.cpe_dictionary.proofs.store.KeptDictionary.commit.Goals as goal

pub rewrite_at-requires : goal.rewrite_at-requires
rewrite_at-requires c = (subst (λ (s : Stored). MayChange s c.args.plan.now c.args.room) (sym c.self.view_is) c.requires.room).note

pub returns-clause-fits : goal.returns-clause-fits
returns-clause-fits c =
    let table = c.args.table.now in
    let k = c.args.plan.now.number in
    let next = c.args.plan.now.next in
    let d = c.args.deprecation in
    let note = c.args.note in
    let i = c.self.inside in
    let back = sym c.self.view_is in
    let fits = subst (FitsTable table) back c.requires.fits in
    let ns = names_numbered table i.entries.names.numbers in
    let even = length-map i.entries.names.numbers (λ (x : NameId). (kept_at table x.0).name) ∙ fits.even in
    let after = c.rewrite_at.new.self in
    let names = c.rewrite_at.ensures.names in
    let details = c.rewrite_at.ensures.details in
    let is = (λ j. entries_of (names_numbered table (names j).numbers) (details j)) ∙ written_beside d note ns i.entries.details k even in
    record {
      order = subst (λ (r : Roll). AreInOrder table r.held r.numbers) (sym names) fits.order;
      even = ap (λ (r : Roll). length r.numbers) names ∙ fits.even ∙ sym (length_written d note k i.entries.details) ∙ sym (ap (λ (ds : List EntryDetails). length ds) details);
      kept =
          kept_change (entries_of ns i.entries.details) (entries_of (names_numbered table after.names.numbers) after.details) i.graph.nodes c.set_edges.new.self.nodes k d note next c.changes_by_number.ensures.changes fits.kept
          (subst (λ (s : Stored). k < length (nodes_of_entries (entries_in table s))) back c.requires.allowed.change.names.node)
          (subst (λ (s : Stored). next ≡ numbered_successors (entries_in table s) d) back c.requires.numbers)
          (subst (λ (s : Stored). IsDictionary (written (rewritten d note) k (entries_in table s))) back c.requires.lawful)
          is
          (c.set_edges.ensures.nodes ∙ ap (changed_nodes i.graph.nodes k) c.next.ensures);
    }

pub returns-clause-entries : goal.returns-clause-entries
returns-clause-entries c =
    let table = c.args.table.now in
    let k = c.args.plan.now.number in
    let d = c.args.deprecation in
    let note = c.args.note in
    let i = c.self.inside in
    let ns = names_numbered table i.entries.names.numbers in
    let even = length-map i.entries.names.numbers (λ (x : NameId). (kept_at table x.0).name) ∙ (subst (FitsTable table) (sym c.self.view_is) c.requires.fits).even in
    (λ j. entries_of (names_numbered table (c.rewrite_at.ensures.names j).numbers) (c.rewrite_at.ensures.details j)) ∙ written_beside d note ns i.entries.details k even
    ∙ ap (λ (s : Stored). written (rewritten d note) k (entries_in table s)) c.self.view_is
