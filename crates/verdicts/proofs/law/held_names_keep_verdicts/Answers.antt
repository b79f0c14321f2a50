use Rattle.verdicts.proofs.TableLemmas.{held_verdicts}
use Rattle.verdicts.proofs.law.held_names_keep_verdicts.Goals as goal

pub returns : goal.returns
returns c old new id name v rows h k =
    held_verdicts old new id name h v rows k
    (c.tables_change.ensures.held old new id name v.facts.boards rows h (record { plain = k.facts.plain.shows; follow = k.facts.follow.shows }))
    (c.tables_change.ensures.fit old new id name v.facts.boards k.sound h (record { plain = k.facts.plain.fits; follow = k.facts.follow.fits }))
