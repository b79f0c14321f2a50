use Rattle.fact_boards.specs.Kept.{FitBoards, ShowRows}
use Rattle.verdicts.proofs.TableLemmas.{released_verdicts}
use Rattle.verdicts.proofs.law.released_names_keep_verdicts.Goals as goal

pub returns : goal.returns
returns c old new id v rows are r known k =
    let boards = v.facts.boards in
    let shown : ShowRows old boards rows = record { plain = k.facts.plain.shows; follow = k.facts.follow.shows } in
    let fitted : FitBoards boards old = record { plain = k.facts.plain.fits; follow = k.facts.follow.fits } in
    released_verdicts old new id are r v rows k known (c.releases_are_safe.ensures.asked old new id boards rows are r known shown) (c.releases_are_safe.ensures.fit old new id boards rows are k.sound r known shown fitted)
