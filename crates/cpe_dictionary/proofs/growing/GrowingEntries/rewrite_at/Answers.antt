use Rattle.std.proofs.Common.{sym, ap, subst, ◌∙◌}
use Rattle.cpe_dictionary.specs.Listed.{details_written, EntryList}
use Rattle.cpe_dictionary.specs.EntryRoom.{HasNoteRoom}
use Rattle.cpe_dictionary.proofs.growing.GrowingEntries.rewrite_at.Goals as goal

pub rewrite_at-requires : goal.rewrite_at-requires
rewrite_at-requires c = subst (λ (l : EntryList). HasNoteRoom l.details c.args.place c.args.room) (sym c.self.view_is) c.requires

pub returns-clause-details : goal.returns-clause-details
returns-clause-details c =
    c.rewrite_at.ensures ∙ ap (λ (l : EntryList). details_written c.args.deprecation c.args.note c.args.place l.details) c.self.view_is
