use Rattle.std.proofs.Common.{◌≡◌, List, refl, sym, ap, ◌∙◌, slice_get}
use Rattle.std.specs.Prelude.{Option, None, Some, option_map}
use Rattle.cpe_rows.specs.cpe_name.Eleven.{Values}
use Rattle.cpe_rows.specs.declared.entry.Entry.{Entry}
use Rattle.cpe_rows.specs.declared.fault.EditFault.TheVariants as fault
use Rattle.cpe_dictionary.proofs.dictionary.Dictionary.too_wide.Goals as goal

-- the fault of an entry with too many ends has the entry's name
by_name : (o : Option Entry) → option_map (λ (e : Entry). fault.TooWide e.name) o ≡ option_map (λ (n : Values). fault.TooWide n) (option_map (λ (e : Entry). e.name) o)
by_name None = refl
by_name (Some e) = refl

pub returns-in-Ok : goal.returns-in-Ok
returns-in-Ok c =
    let k = c.args.number in
    ap (λ (es : List Entry). option_map (λ (e : Entry). fault.TooWide e.name) (slice_get es k)) (sym c.self.view_is)
    ∙ by_name (slice_get c.self.inside.entries k)
    ∙ ap (option_map (λ (n : Values). fault.TooWide n)) (sym c.in-Some.ensures)
    ∙ ap (λ (n : Values). Some (fault.TooWide n)) (sym c.in-Ok.ensures)
