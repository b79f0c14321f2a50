use Rattle.std.proofs.Common.{ap, sym, subst, ◌∙◌}
use Rattle.std.specs.Prelude.{option_map}
use Rattle.std.specs.Str.{bytes_eq}
use Rattle.advise_ranges.specs.Kept.{advisories_in, AreLower}
use Rattle.advise_ranges.proofs.KeptLemmas.{found_by_id, removed_by_id, still_lower, with_id}
use Rattle.advise_ranges.proofs.advised.take_out.Goals as goal

pub returns-clause-found : goal.returns-clause-found
returns-clause-found c =
    ap (option_map (with_id c.args.id.now)) c.shift_remove.ensures.value ∙ sym (found_by_id c.args.id.now c.args.by_id.now.entries)

pub returns-clause-left : goal.returns-clause-left
returns-clause-left c = ap advisories_in c.shift_remove.ensures.entries ∙ removed_by_id c.args.id.now c.args.by_id.now.entries

pub returns-clause-all : goal.returns-clause-all
returns-clause-all c = subst AreLower (sym c.shift_remove.ensures.entries) (still_lower (bytes_eq c.args.id.now) c.args.by_id.now.entries c.requires.all)
