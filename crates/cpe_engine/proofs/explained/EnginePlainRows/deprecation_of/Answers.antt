use Rattle.std.proofs.Common.{◌≡◌, ◌∙◌, List, ap, find, slice_get, sym}
use Rattle.cpe_rows.specs.Rows.{is_named}
use Rattle.cpe_rows.specs.declared.entry.Entry.{Entry}
use Rattle.cpe_engine.proofs.FactLemmas.{deprecation_in, none_found, place_found}
use Rattle.cpe_engine.proofs.explained.EnginePlainRows.deprecation_of.Goals as goal

pub returns-in-Some : goal.returns-in-Some
returns-in-Some c =
    let es : List Entry = c.args.self.now.entries in
    let found : find (is_named c.args.name.now) es ≡ slice_get es c.in-Some.place
    = place_found (is_named c.args.name.now) es c.in-Some.place (sym c.in-Some.ensures) in
    c.deprecation_at.ensures ∙ ap deprecation_in (sym found)

pub returns-in-None : goal.returns-in-None
returns-in-None c =
    let es : List Entry = c.args.self.now.entries in
    ap deprecation_in (sym (none_found (is_named c.args.name.now) es (sym c.in-None.ensures)))
