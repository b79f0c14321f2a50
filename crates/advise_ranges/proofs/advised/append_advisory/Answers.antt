use Rattle.std.proofs.Common.{[], ◌∷◌, map, ap, sym, subst, ◌∙◌}
use Rattle.std.proofs.lemmas.List.{map-append}
use Rattle.std.specs.Str.{bytes_eq}
use Rattle.indexmap.proofs.CallerLemmas.{insert_entry-new}
use Rattle.advise_ranges.specs.Kept.{advisory_from, AreLower}
use Rattle.advise_ranges.specs.declared.advised.Terms.{Terms}
use Rattle.advise_ranges.proofs.KeptLemmas.{absent_by_id, last_lower}
use Rattle.advise_ranges.proofs.advised.append_advisory.Goals as goal

pub returns-clause-ok : goal.returns-clause-ok
returns-clause-ok c =
    let old = c.args.by_id.now in
    let a = c.args.advisory in
    let terms : Terms = record { name = a.name; start = a.start; end = a.end } in
    ap (map advisory_from) (c.in_ok-insert.ensures.entries ∙ insert_entry-new bytes_eq old a.id terms (absent_by_id a.id old.entries c.requires.fresh))
    ∙ map-append advisory_from old.entries ((a.id, terms) ∷ [])

pub returns-clause-all : goal.returns-clause-all
returns-clause-all c =
    let old = c.args.by_id.now in
    let a = c.args.advisory in
    let terms : Terms = record { name = a.name; start = a.start; end = a.end } in
    subst AreLower (sym (c.in_ok-insert.ensures.entries ∙ insert_entry-new bytes_eq old a.id terms (absent_by_id a.id old.entries c.requires.fresh)))
    (last_lower old.entries (a.id, terms) c.requires.all c.requires.lower)
