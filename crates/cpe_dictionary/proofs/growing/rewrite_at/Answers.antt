use Rattle.std.proofs.Common.{◌<◌, List, Some, length, sym, ap, subst, ◌∙◌}
use Rattle.std.proofs.lemmas.Option.{slice_get-get_or}
use Rattle.std.specs.Prelude.{Option}
use Rattle.cpe_dictionary.specs.declared.kept.EntryDetails.{EntryDetails}
use Rattle.cpe_dictionary.proofs.growing.rewrite_at.Goals as goal

pub rewrite-requires : goal.rewrite-requires
rewrite-requires c =
    let x = c.index_mut.result.now in
    c.requires x (slice_get-get_or c.args.all.now.items c.args.place x (subst (λ (ds : List EntryDetails). c.args.place < length ds) c.as_slice.ensures.value c.if-place-as_slice.true) ∙ ap {B = Option EntryDetails} (λ (d : EntryDetails). Some d) (sym c.index_mut.ensures.value))
